-- What the machine leaves of a run of bound arguments, and what the program means by it.
use Rattle.std.proofs.Common.{◌≡◌, ℕ, List, Result, Ok, Err, IfOk, IfErr, true, refl, sym, ap, ◌∙◌, subst}
use Rattle.isp_base.specs.Arguments.{AreShort, rows}
use Rattle.isp_base.specs.Binding.{has_signature}
use Rattle.isp_base.specs.Outcomes.{out_of, IsOver}
use Rattle.isp_base.specs.Rows.{Row}
use Rattle.isp_base.specs.declared.signature.Argument.{Argument}
use Rattle.isp_base.specs.declared.signature.Parameter.{Parameter}
use Rattle.isp_base.specs.declared.trap.Trap.{Trap}
use Rattle.isp_code.specs.Conf.{Conf, State, Runs as Going, Trapped as Fell, Ended as Over}
use Rattle.isp_code.specs.Entries.{IsEntry}
use Rattle.isp_code.specs.Listing.{Listing, Routine}
use Rattle.isp_code.specs.Machine.{after, first_conf, outcome}
use Rattle.isp_machine.specs.Kept.{Kept, given, state}
use Rattle.isp_machine.specs.Runs.{AtRefusal, IsRunning, Made, RunGives}
use Rattle.isp_machine.specs.Starts.{NoEntryFor, Starts}
use Rattle.isp_machine.specs.declared.stop.StartFault.{StartFault}
use Rattle.isp_machine.specs.declared.stop.StartFault.TheVariants.{Memory as NoMemory, NoEntry}
use Rattle.isp_machine.specs.declared.stop.Stop.{Stop}
use Rattle.isp_machine.specs.declared.stop.Stop.TheVariants.{Running, Trapped, Ended, Memory}
use Rattle.isp_masks_code.specs.Agreement.{Agrees}
use Rattle.isp_meaning.specs.Entries as meaning
use Rattle.isp_rates.specs.Accepted.{IsAccepted}
use Rattle.isp_store.specs.Held.{shapes_of}
use Rattle.isp_typed.specs.Typed.{Program}
use Rattle.isp_runs.specs.BoundReports.{Counts, IsCut, Leaves, MeansBound, NotMeant, RefusesBound, RunsBound, Shows, StandsAs}
use Rattle.isp_runs.specs.declared.report.BoundReport.{BoundReport}
use Rattle.isp_runs.proofs.Means.{tells}
use Rattle.isp_runs.proofs.Runs.{given_is}

-- ---- the machine

at_refusal : (code : Listing) (s : State) → AtRefusal code s → IsRunning s
at_refusal code (Going c) h = tt
at_refusal code (Fell t c) h = absurd h
at_refusal code (Over x c) h = absurd h

counted : (b : ℕ) (old now : Kept) (stop : Stop) → RunGives b old now stop → (m : ℕ) × Counts stop b m × Made m old now × StandsAs stop (state now)
counted b old now Running g = (b, refl, g.0, g.1)
counted b old now (Trapped t) g = (b, refl, g.0, g.1)
counted b old now Ended g = (b, refl, g.0, g.1)
counted b old now Memory g = (g.0, g.1, g.2, at_refusal now.code (state now) g.3)

module _ (code : Listing) (entry : List ℕ) (xs : List Argument) (b : ℕ) (old now : Kept) (begins : Starts code entry xs old) (stop : Stop) (gives : RunGives b old now stop) where
  pub given_same : shapes_of (rows xs) ≡ given now
  given_same = let k = counted b old now stop gives in given_is code entry xs k.0 old now begins k.2

  pub stands : StandsAs stop (state now)
  stands = (counted b old now stop gives).3

  pub runs_bound : (r : BoundReport) → r.stop ≡ stop → Leaves code (rows xs) (state now) r → RunsBound code entry xs b r
  runs_bound r same leaves =
      let k = counted b old now stop gives in
      let ran : Made k.0 old now = k.2 in
      let came : state now ≡ after code k.0 (Going (first_conf code begins.function begins.routine xs)) =
      ran.state_is ∙ ap (λ c. after c k.0 (state old)) begins.code_is ∙ ap (after code k.0) begins.state_is in
      record {
        function = begins.function;
        routine = begins.routine;
        is_entry = begins.entry;
        count = k.0;
        counts = subst (λ (s : Stop). Counts s b k.0) (sym same) k.1;
        leaves = subst (λ s. Leaves code (rows xs) s r) came leaves;
      }

pub refuses : (code : Listing) (entry : List ℕ) (xs : List Argument) (fault : StartFault) → (fault ≡ NoEntry → NoEntryFor code entry xs)
    → (fault ≡ NoMemory → (f : ℕ) × (g : Routine) × IsEntry code entry xs f g) → RefusesBound code entry xs fault
refuses code entry xs NoEntry none some = none refl
refuses code entry xs NoMemory none some = some refl

-- ---- an outcome

cut : (stop : Stop) (c : Conf) → StandsAs stop (Going c) → IsCut stop
cut Memory c h = tt
cut Running c h = tt
cut Ended c h = absurd h
cut (Trapped t) c h = absurd h

fell : (stop : Stop) (t : Trap) (c : Conf) → StandsAs stop (Fell t c) → stop ≡ Trapped t
fell Memory t c h = absurd h
fell Running t c h = absurd h
fell Ended t c h = absurd h
fell (Trapped u) t c h = ap Trapped (sym h)

over : (stop : Stop) (x : _) (c : Conf) → StandsAs stop (Over x c) → stop ≡ Ended
over Memory x c h = absurd h
over Running x c h = absurd h
over Ended x c h = refl
over (Trapped t) x c h = absurd h

pub shows : {code : Listing} (rs : List Row) (s : State) (r : BoundReport) → Leaves code rs s r → Shows (outcome rs s) r
shows {code} rs (Going c) r l = (cut r.stop c l.stop, l.result, l.output)
shows {code} rs (Fell t c) r l = (fell r.stop t c l.stop, l.arrays, l.result, l.output)
shows {code} rs (Over x c) r l = (over r.stop x c l.stop, l.arrays, l.result, l.output)

is_over : {code : Listing} (rs : List Row) (s : State) (r : BoundReport) → Leaves code rs s r → (IsCut r.stop → ⊥) → IsOver (outcome rs s)
is_over {code} rs (Going c) r l whole = whole (cut r.stop c l.stop)
is_over {code} rs (Fell t c) r l whole = tt
is_over {code} rs (Over x c) r l whole = tt

out_is : {code : Listing} (rs : List Row) (s : State) (r : BoundReport) → Leaves code rs s r → r.output.items ≡ out_of (outcome rs s)
out_is {code} rs (Going c) r l = l.output
out_is {code} rs (Fell t c) r l = l.output
out_is {code} rs (Over x c) r l = l.output

-- ---- the meaning

module _ (program : Program) (code : Listing) (agrees : Agrees program code) (entry : List ℕ) (xs : List Argument) where
  pub means_bound : IsAccepted program → AreShort xs → (b : ℕ) (r : BoundReport) → RunsBound code entry xs b r → MeansBound program entry xs b r
  means_bound accepted short b r ran =
      let k = agrees.exports_only entry ran.function ran.routine ran.is_entry.export in
      let fits : has_signature k.0.parameters xs ≡ true = subst (λ (ps : List Parameter). has_signature ps xs ≡ true) k.2.parameters ran.is_entry.fits in
      let is_entry : meaning.IsEntry program entry xs ran.function k.0 = record { export = k.1; fits = fits } in
      let came : State = after code ran.count (Going (first_conf code ran.function ran.routine xs)) in
      record {
        function = ran.function;
        typed = k.0;
        is_entry = is_entry;
        count = ran.count;
        counts = ran.counts;
        tells =
            tells program code ran.function k.0 ran.routine xs accepted entry is_entry (k.2.runs xs fits short) ran.count (λ o. Shows o r) (IsCut r.stop → ⊥) r.output.items
            (shows (rows xs) came r ran.leaves) (is_over (rows xs) came r ran.leaves) (out_is (rows xs) came r ran.leaves);
      }

  pub not_meant : (fault : StartFault) → RefusesBound code entry xs fault → NotMeant program entry xs fault
  not_meant NoEntry none = λ f h e.
      let k = agrees.exports entry f h e.export in
      none f k.0 (record { export = k.1; fits = subst (λ (ps : List Parameter). has_signature ps xs ≡ true) (sym k.2.parameters) e.fits })
  not_meant NoMemory x =
      let k = agrees.exports_only entry x.0 x.1 x.2.export in
      (x.0, k.0, record { export = k.1; fits = subst (λ (ps : List Parameter). has_signature ps xs ≡ true) k.2.parameters x.2.fits })

-- ---- what is answered

pub each_ok : {A : Type 0} {E : Type 0} (r : Result A E) (P : A → Type 0) (Q : A → Type 0) → ((x : A) → P x → Q x) → IfOk r P → IfOk r Q
each_ok (Ok x) P Q f h = f x h
each_ok (Err e) P Q f h = tt

pub each_err : {A : Type 0} {E : Type 0} (r : Result A E) (P : E → Type 0) (Q : E → Type 0) → ((e : E) → P e → Q e) → IfErr r P → IfErr r Q
each_err (Ok x) P Q f h = tt
each_err (Err e) P Q f h = f e h
