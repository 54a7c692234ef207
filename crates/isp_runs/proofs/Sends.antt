-- What a run sent, by what its parts sent.
use Rattle.std.proofs.Common.{◌≡◌, ◌≢◌, inr, IfOk, ◌++◌, ℕ, List, [], ◌∷◌, Bool, true, false, Option, None, Some, Result, Ok, Err, String, refl, sym, ap, ◌∙◌, subst, take, length, append-nil, arith}
use Rattle.std.specs.Prelude.{MatchOption, string_bytes}
use Rattle.std.specs.declared.alloc.Global.{Global}
use Rattle.std.proofs.lemmas.Grind.{common_steps}
use Rattle.isp_base.specs.Arguments.{rows}
use Rattle.isp_base.specs.Outcomes.{Outcome, Ends, Traps, GoesOn, out_of}
use Rattle.isp_base.specs.Rows.{Row}
use Rattle.isp_base.specs.declared.signature.Argument.{Argument}
use Rattle.isp_base.specs.declared.signature.Parameter.{Parameter}
use Rattle.isp_bind.specs.Binding.{bound_of}
use Rattle.isp_code.specs.Entries.{IsExport, parameters_of}
use Rattle.isp_code.specs.Listing.{Listing, Routine}
use Rattle.isp_code.specs.Machine.{outcome, outcome_after}
use Rattle.isp_machine.specs.Kept.{Kept, given, state}
use Rattle.isp_machine.specs.Runs.{Made, RunGives, conf}
use Rattle.isp_machine.specs.Starts.{Starts}
use Rattle.isp_machine.specs.declared.stop.Stop.{Stop}
use Rattle.isp_machine.specs.declared.stop.Stop.TheVariants.{Memory}
use Rattle.isp_store.specs.Held.{shapes_of}
use Rattle.isp_verify.specs.Progress.{NeverStuck}
use Rattle.isp_runs.specs.declared.fault.RunFault.{RunFault}
use Rattle.isp_runs.specs.declared.fault.RunFault.TheVariants.{Memory as NoMemory, NoEntry, Arguments, WriteFailed}
use Rattle.isp_runs.specs.declared.report.Report.{Report}
use Rattle.isp_runs.specs.Reports.{Executes, Reports, ReportsRun}
use Rattle.isp_runs.specs.Sending.{Sends, SendsFirst, SendsOf, SentSome, answer_bytes, report_bytes, sent}
use Rattle.isp_output.specs.Sinks.{TookAll, TookFirst, TookSome, adds}
use Rattle.isp_output.specs.Stops.{Adds, MadeSome, StopsAs, out_now}
use Rattle.isp_runs.proofs.Runs.{given_is, made, outcome_is, reported, stops, wanting as no_memory}
use Rattle.isp_output.proofs.Streams.{conf_out}
use Rattle.isp_output.proofs.Written.{adds_nil, took_both, took_early, took_later}

-- ---- what an outcome sends begins with its output

sent_begins : (ps : List Parameter) (o : Outcome) → (rest : List ℕ) × (out_of o ++ rest ≡ sent ps o)
sent_begins ps (Ends arrays answer out) = (_, refl)
sent_begins ps (Traps t arrays out) = ([], append-nil out)
sent_begins ps (GoesOn out) = ([], append-nil out)

first_sent : (ps : List Parameter) (o : Outcome) (old new : Option (List ℕ)) → TookFirst (out_of o) old new → TookFirst (sent ps o) old new
first_sent ps o old new h =
    let e = sent_begins ps o in
    subst (λ z. TookFirst z old new) e.1 (took_early (out_of o) e.0 old new true (h, refl)).0

all_first : (xs : List ℕ) (old new : Option (List ℕ)) (f : Bool) → TookAll xs old new f → TookFirst xs old new
all_first xs old new f h = (length xs, h.0 ∙ ap (λ z. adds z old) (sym (whole xs)))
  where
    whole : (xs : List ℕ) → take (length xs) xs ≡ xs
    whole xs = grind (arith, common_steps)

-- ---- a report sends what its outcome sends

ended_bytes : (text : List ℕ) (a : Option (String Global)) → MatchOption a ⊥ (λ s. string_bytes s ≡ text) → answer_bytes a ≡ text ++ 10 ∷ []
ended_bytes text None h = absurd h
ended_bytes text (Some s) h = ap (λ z. z ++ 10 ∷ []) h

pub report_sent : (ps : List Parameter) (o : Outcome) (r : Report) → Reports ps o r → report_bytes r ≡ sent ps o
report_sent ps (Ends arrays answer out) r h = ap (λ z. z ++ answer_bytes r.answer) h.1 ∙ ap (λ z. out ++ z) (ended_bytes _ r.answer h.2)
report_sent ps (Traps t arrays out) r h = ap (λ z. z ++ answer_bytes r.answer) h.1 ∙ ap (λ z. out ++ answer_bytes z) h.2 ∙ append-nil out
report_sent ps (GoesOn out) r h = ap (λ z. z ++ answer_bytes r.answer) h.1 ∙ ap (λ z. out ++ answer_bytes z) h.2 ∙ append-nil out

report_out : (ps : List Parameter) (o : Outcome) (r : Report) → Reports ps o r → r.output.items ≡ out_of o
report_out ps (Ends arrays answer out) r h = h.1
report_out ps (Traps t arrays out) r h = h.1
report_out ps (GoesOn out) r h = h.1

-- ---- nothing was sent yet

pub none_sent : (code : Listing) (ps : List Parameter) (f : ℕ) (g : Routine) (xs : List Argument) (b : ℕ) (o : Option (List ℕ)) → SendsFirst code ps f g xs b o o
none_sent code ps f g xs b o = (0, omega arith, (0, sym (adds_nil o)))

-- ---- a machine that began with an entry's first state

module _ (code : Listing) (entry : List ℕ) (xs : List Argument) (b : ℕ) (old now : Kept) (begins : Starts code entry xs old) (fine : NeverStuck code) (f : ℕ) (g : Routine) (x : IsExport code entry f g) (ps : List Parameter) where
  fresh : out_now old ≡ []
  fresh = ap (λ s. (conf s).out) begins.state_is

  -- all its output is new
  output : (such : List ℕ → Type 0) → Adds old now such → such (out_now now)
  output such h = subst such (sym (h.added ∙ ap (λ z. z ++ h.bytes) fresh)) h.are

  out_after : (m : ℕ) → Made m old now → out_now now ≡ out_of (outcome_after code f g xs m)
  out_after m ran = sym (conf_out (rows xs) (state now)) ∙ ap out_of (outcome_is code entry xs m old now begins ran fine f g x)

  sends_first : MadeSome b old now → (o n : Option (List ℕ)) → TookFirst (out_now now) o n → SendsFirst code ps f g xs b o n
  sends_first s o n h = (s.0, s.1, first_sent ps (outcome_after code f g xs s.0) o n (subst (λ z. TookFirst z o n) (out_after s.0 s.2) h))

  -- the sink failed, or memory was refused after all output so far
  pub cut : MadeSome b old now → (o n : Option (List ℕ)) (fl : Bool) → Adds old now (λ bytes. TookSome bytes o n fl) → SendsFirst code ps f g xs b o n × (fl ≡ true)
  cut s o n fl h = let k = output (λ bytes. TookSome bytes o n fl) h in (sends_first s o n k.0, k.1)

  pub wanting : MadeSome b old now → (o n : Option (List ℕ)) (fl : Bool) → Adds old now (λ bytes. TookAll bytes o n fl) → SendsFirst code ps f g xs b o n × (fl ≡ false)
  wanting s o n fl h = let k = output (λ bytes. TookAll bytes o n fl) h in (sends_first s o n (all_first (out_now now) o n fl k), k.1)

  -- it was reported
  module _ (stop : Stop) (gives : RunGives b old now stop) (ne : stop ≡ Memory → ⊥) (r : Report) (reports : (rs : List Row) → shapes_of rs ≡ given now → StopsAs stop (state now) → Reports ps (outcome rs (state now)) r) where
    abbrev ran : Made b old now
    ran = made b old now stop gives (stops b old now stop gives ne)

    pub reported_as : Reports ps (outcome_after code f g xs b) r
    reported_as =
        subst (λ o. Reports ps o r) (outcome_is code entry xs b old now begins ran fine f g x)
        (reports (rows xs) (given_is code entry xs b old now begins ran) (stops b old now stop gives ne))

    output_is : r.output.items ≡ out_now now
    output_is = report_out ps (outcome_after code f g xs b) r reported_as ∙ sym (out_after b ran)

    pub whole : (o k n : Option (List ℕ)) (fl gl : Bool) → Adds old now (λ bytes. TookAll bytes o k fl) → TookAll (answer_bytes r.answer) k n gl → TookAll (report_bytes r) o n gl
    whole o k n fl gl h t =
        subst (λ z. TookAll (z ++ answer_bytes r.answer) o n gl) (sym output_is)
        (took_both (out_now now) (answer_bytes r.answer) o k n fl gl (output (λ bytes. TookAll bytes o k fl) h) t)

    pub answer_cut : (o k n : Option (List ℕ)) (fl gl : Bool) → Adds old now (λ bytes. TookAll bytes o k fl) → TookSome (answer_bytes r.answer) k n gl → SendsFirst code ps f g xs b o n × (gl ≡ true)
    answer_cut o k n fl gl h t =
        let some : TookSome (out_now now ++ answer_bytes r.answer) o n gl = took_later (out_now now) (answer_bytes r.answer) o k n fl gl (output (λ bytes. TookAll bytes o k fl) h) t in
        let sends : TookFirst (sent ps (outcome_after code f g xs b)) o n =
        subst (λ z. TookFirst z o n) (ap (λ z. z ++ answer_bytes r.answer) (sym output_is) ∙ report_sent ps (outcome_after code f g xs b) r reported_as) some.0 in
        ((b, omega arith, sends), some.1)

-- ---- the function that is exported under a name, from the arguments that a text binds

module _ (code : Listing) (fine : NeverStuck code) (entry json : List ℕ) (b : ℕ) (f : ℕ) (g : Routine) (x : IsExport code entry f g)
    (ps : List Parameter) (is : ps ≡ parameters_of g) (xs : List Argument) (bound : bound_of ps json ≡ Ok xs) (old new : Option (List ℕ))
    (failed : Bool) where
  some_sent : SendsFirst code ps f g xs b old new → SentSome code entry json b old new
  some_sent h = record {
    function = f;
    routine = g;
    export = x;
    arguments = xs;
    bound = subst (λ qs. bound_of qs json ≡ Ok xs) is bound;
    first = subst (λ qs. SendsFirst code qs f g xs b old new) is h;
  }

  pub sends_of : (answer : Result Report RunFault) → SendsOf code ps f g xs b old new failed answer → Sends code entry json b old new failed answer
  sends_of (Ok r) h = h
  sends_of (Err NoMemory) h = inr (some_sent h.0, h.1)
  sends_of (Err WriteFailed) h = (some_sent h.0, h.1)
  sends_of (Err NoEntry) h = absurd h
  sends_of (Err (Arguments z)) h = absurd h

  pub answers_of : (answer : Result Report RunFault) → IfOk answer (ReportsRun code entry ps xs b) → SendsOf code ps f g xs b old new failed answer → answer ≢ Err WriteFailed → Executes code entry json b answer
  answers_of (Ok r) h k ne = reported code fine entry json b f g x ps is xs bound r h
  answers_of (Err NoMemory) h k ne = no_memory code fine entry json b f g x ps is
  answers_of (Err WriteFailed) h k ne = absurd (ne refl)
  answers_of (Err NoEntry) h k ne = absurd k
  answers_of (Err (Arguments z)) h k ne = absurd k

-- where the sink never fails, 81 does not come
pub never_cut : (code : Listing) (entry json : List ℕ) (b : ℕ) (old new : Option (List ℕ)) (answer : Result Report RunFault) → Sends code entry json b old new false answer → answer ≢ Err WriteFailed
never_cut code entry json b old new (Ok r) h = λ e. let none : ⊥ = cc in none
never_cut code entry json b old new (Err NoMemory) h = λ e. let none : ⊥ = cc in none
never_cut code entry json b old new (Err NoEntry) h = λ e. let none : ⊥ = cc in none
never_cut code entry json b old new (Err (Arguments z)) h = λ e. let none : ⊥ = cc in none
never_cut code entry json b old new (Err WriteFailed) h = λ e. let k : false ≡ true = h.1 in absurd cc
