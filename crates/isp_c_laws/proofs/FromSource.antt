-- From source to bytes.
use Rattle.std.proofs.Common.{◌≡◌, ◌≢◌, ◌⊎◌, inl, inr, ℕ, zero, suc, ◌<◌, ◌≤◌, ◌^◌, ◌&&◌, List, [], ◌∷◌, ◌++◌, drop, length, take, Bool, true, false, Option, None, Some, Result, Ok, Err, refl, sym, ap, ◌∙◌, subst, ⊎_elim, arith, lit<}
use Rattle.std.specs.Prelude.{IsUtf8, MatchResult, slice_get, slice_index}
use Rattle.std.specs.List.{AllByRecursion, list_all}
use Rattle.std.specs.Str.{IsAscii}
use Rattle.std.proofs.lemmas.Bool.{cases_lt, false≢true}
use Rattle.std.proofs.lemmas.Bool.Decides.{nat_tests}
use Rattle.std.proofs.lemmas.Str.{IsUtf8-from_ascii}
use Rattle.std.proofs.lemmas.List.Elements.{All-from_recursion}
use Rattle.isp_base.specs.Arguments.{AreShort, IsShort}
use Rattle.isp_base.specs.Outcomes.{Outcome, Ends, Traps, GoesOn, out_of}
use Rattle.isp_base.specs.Types.{gang_width}
use Rattle.isp_base.specs.declared.signature.Argument.{Argument}
use Rattle.isp_base.specs.declared.signature.Argument.TheVariants.{Value as AValue, Array as AnArray}
use Rattle.isp_base.specs.declared.signature.Parameter.{Parameter}
use Rattle.isp_base.specs.declared.types.Gang.{Gang}
use Rattle.isp_base.specs.declared.types.Gang.TheVariants.{W4, W8, W16, W32}
use Rattle.isp_asm.specs.Faults.{fault_of}
use Rattle.isp_asm.specs.Laws.{Faultless, OneText}
use Rattle.isp_code.specs.Entries as code
use Rattle.isp_code.specs.Entries.{parameters_of}
use Rattle.isp_code.specs.Listing.{Listing, Routine}
use Rattle.isp_code.specs.Machine.{outcome_after}
use Rattle.isp_code.specs.Writable.{instr_fits, is_first_byte, is_word_byte, local_fits, name_fits, number_fits, param_fits, routine_fits}
use Rattle.isp_verify.specs.Faults.{code_fault}
use Rattle.isp_typed.specs.Typed.{Program, TFunction}
use Rattle.isp_meaning.specs.Entries.{IsEntry, IsExport}
use Rattle.isp_machine.specs.declared.stop.Stop.{Stop}
use Rattle.isp_machine.specs.declared.stop.Stop.TheVariants as stop
use Rattle.isp_native.specs.Text.{IsCText}
use Rattle.isp_wasm_file.specs.File.{IsFile as IsWasmFile}
use Rattle.isp_packed.proofs.Fits.{ok_same, unpacked_fits}
use Rattle.isp_packed.specs.Packing.{IsPackable, longest, packed_answer}
use Rattle.isp_packed.specs.Unpacking.{unpacked_of}
use Rattle.isp_packed.specs.declared.fault.PackedFault.{PackedFault}
use Rattle.isp_runs.specs.BoundReports.{Counts, IsCut, RunsBound, Shows}
use Rattle.isp_runs.specs.Compilation.{IsCompilation}
use Rattle.isp_front.specs.Front.{IsSource}
use Rattle.isp_runs.specs.Loading.{IsLoaded, IsNotLoaded}
use Rattle.isp_engine.specs.declared.failure.Failure.{Failure}
use Rattle.isp_engine.specs.declared.failure.Failure.TheVariants as failure
use Rattle.isp_runs.specs.declared.fault.CodeFault.{CodeFault}
use Rattle.isp_runs.specs.declared.fault.CodeFault.TheVariants as code_fault_of
use Rattle.isp_runs.specs.declared.fault.RunFault.TheVariants as run_fault
use Rattle.isp_runs.specs.declared.report.BoundReport.{BoundReport}
use Rattle.isp_headline.specs.BoundHeadline.{BoundHeadline, DoesAsMeantBound}
use Rattle.isp_headline.specs.Headline.{RunsAsMeant}
use Rattle.isp_headline.specs.ModuleHeadline.{ModuleHeadline}
use Rattle.isp_c_laws.specs.Compiling.{Compiles, IsCodeText, IsText, NoCodeText}
use Rattle.isp_c_laws.specs.FromSource.{FromSource, FromSourceToC, Leaves, LeavesAll, LeavesArguments}
use Rattle.isp_reports.specs.Refusals.{status_of}
use Rattle.isp_reports.specs.Reports.{Done, Refuses}
use Rattle.isp_reports.specs.Rooms.{Answers, Gives, fronted}
use Rattle.isp_c_laws.specs.FromSourceToWasm.{FromSourceToWasm}
use Rattle.isp_c_laws.specs.Modules.{IsModule, IsModuleFile, MakesModule, NoModuleFile}
use Rattle.isp_c_laws.specs.Running.{Delivers, NoCode, NoRun, Ran, RunOf, Runs, Stops, Takes, Tells, answered, returned_bits}
use Rattle.isp_c_laws.specs.Translating.{IsCFile, IsFile, Translates}
use Rattle.isp_reports.specs.declared.refusal.Refusal.{Refusal}
use Rattle.isp_reports.specs.declared.refusal.Refusal.TheVariants.{NoGang, Failed, Arguments, NoModule, Short}
use Rattle.isp_reports.specs.declared.report.Report.{Report}

-- ---- what isp_compile wrote

no_status : (f : Refusal) → 0 ≡ status_of f → ⊥
no_status NoGang e = omega (arith, e)
no_status (Arguments f) e = omega (arith, e)
no_status (NoModule line) e = omega (arith, e)
no_status Short e = omega (arith, e)
no_status (Failed (failure.Source f)) e = omega (arith, e)
no_status (Failed (failure.Trapped t)) e = omega (arith, e)
no_status (Failed failure.BudgetUsed) e = omega (arith, e)
no_status (Failed (failure.TurnsUsed p)) e = omega (arith, e)
no_status (Failed (failure.Run f)) e = omega (arith, e)
no_status (Failed (failure.CannotRead name)) e = omega (arith, e)
no_status (Failed failure.CannotWrite) e = omega (arith, e)
no_status (Failed failure.Memory) e = omega (arith, e)
no_status (Failed (failure.Code f)) e = omega (arith, e)
no_status (Failed (failure.NotIndependent d)) e = omega (arith, e)
no_status (Failed (failure.NotApart name i)) e = omega (arith, e)

same_gang : (a b : Gang) → gang_width a ≡ gang_width b → a ≡ b
same_gang W4 W4 e = refl
same_gang W8 W8 e = refl
same_gang W16 W16 e = refl
same_gang W32 W32 e = refl
same_gang W4 W8 e = absurd (omega (arith, e))
same_gang W4 W16 e = absurd (omega (arith, e))
same_gang W4 W32 e = absurd (omega (arith, e))
same_gang W8 W4 e = absurd (omega (arith, e))
same_gang W8 W16 e = absurd (omega (arith, e))
same_gang W8 W32 e = absurd (omega (arith, e))
same_gang W16 W4 e = absurd (omega (arith, e))
same_gang W16 W8 e = absurd (omega (arith, e))
same_gang W16 W32 e = absurd (omega (arith, e))
same_gang W32 W4 e = absurd (omega (arith, e))
same_gang W32 W8 e = absurd (omega (arith, e))
same_gang W32 W16 e = absurd (omega (arith, e))

take_front : (xs ys : List ℕ) → take (length xs) (xs ++ ys) ≡ xs
take_front [] ys = refl
take_front (x ∷ xs) ys = ap (λ z. x ∷ z) (take_front xs ys)

-- with status 0 the room begins with what was found, whose length is told
module _ (room text : List ℕ) (r : Report) where
  front : (found : List ℕ) → Gives found room text r 0 → take r.used text ≡ found
  front found gives = ⊎_elim (λ lt. absurd (no_status Short (gives.short lt).1.0)) whole (cases_lt (length room) (length found))
    where
      whole : length found ≤ length room → take r.used text ≡ found
      whole fits =
          let k = gives.whole fits in
          let used : r.used ≡ length found = ap (λ (z : Report). z.used) k.1.1 in
          ap (λ n. take n text) used ∙ ap (take (length found)) k.0 ∙ take_front found (drop (length found) room)

  is_front : (P : List ℕ → Type 0) (Q : Refusal → Type 0) (answer : Result (List ℕ) Refusal) → MatchResult answer P Q → Answers room text r 0 answer → P (take r.used text)
  is_front P Q (Ok found) is gives = subst P (sym (front found gives)) is
  is_front P Q (Err f) is refuses = absurd (no_status f refuses.1.0)

compiled_text : (width : ℕ) (source room text : List ℕ) (r : Report) → Compiles width source room text r 0 → IsCodeText width source (take r.used text)
compiled_text width source room text r x = is_front room text r (IsCodeText width source) (NoCodeText width source) x.0 (of x.0 x.1) x.2
  where
    of : (answer : Result (List ℕ) Refusal) → IsText width source answer → MatchResult answer (IsCodeText width source) (NoCodeText width source)
    of (Ok found) is = is
    of (Err f) is = is

c_file : (text old new : List ℕ) (r : Report) → Translates text old new r 0 → IsCFile text (take r.used new)
c_file text old new r x = is_front old new r (IsCFile text) (NoCode text) x.0 (of x.0 x.1) x.2
  where
    of : (answer : Result (List ℕ) Refusal) → IsFile text answer → MatchResult answer (IsCFile text) (NoCode text)
    of (Ok found) is = is
    of (Err f) is = is

module_file : (text old new : List ℕ) (r : Report) → MakesModule text old new r 0 → IsModuleFile text (take r.used new)
module_file text old new r x = is_front old new r (IsModuleFile text) (NoModuleFile text) x.0 (of x.0 x.1) x.2
  where
    of : (answer : Result (List ℕ) Refusal) → IsModule text answer → MatchResult answer (IsModuleFile text) (NoModuleFile text)
    of (Ok found) is = is
    of (Err f) is = is

-- ---- the text that it is

module _ (one : OneText) (none : Faultless) (text : List ℕ) (image : Listing) (loads : IsLoaded text image) where
  same_code : (c : Listing) → IsLoaded text c → c ≡ image
  same_code c k = one c image k.of.writable loads.of.writable (k.of.is ∙ sym loads.of.is)

  not_refused : (f : CodeFault) → IsNotLoaded text f → ⊥
  not_refused code_fault_of.Memory r = r
  not_refused (code_fault_of.Text f) r =
      let fine : fault_of text ≡ None = ap fault_of (sym loads.of.is) ∙ none image loads.of.writable in
      let no : ⊥ = cc in
      no
  not_refused (code_fault_of.Code f) r =
      let same : r.0 ≡ image = one r.0 image r.1.writable loads.of.writable (r.1.is ∙ sym loads.of.is) in
      let fine : code_fault r.0 ≡ None = ap code_fault same ∙ loads.fine in
      let found : code_fault r.0 ≡ Some f = r.2 in
      let no : ⊥ = cc in
      no

-- ---- arguments that bytes hold

few : longest < 2 ^ 63
few = lit< tt

each_short : (xs : List Argument) → AllByRecursion IsPackable xs → AllByRecursion IsShort xs
each_short [] h = tt
each_short (AValue v ∷ xs) h = (tt, each_short xs h.1)
each_short (AnArray a ∷ xs) h = let fits = h.0.1 in (omega (arith, fits, few), each_short xs h.1)

pub are_short : (ps : List Parameter) (bytes : List ℕ) (xs : List Argument) → unpacked_of ps bytes ≡ Ok xs → AreShort xs
are_short ps bytes xs e = All-from_recursion IsShort xs (each_short xs (unpacked_fits ps bytes xs e).each)

-- ---- what is delivered of a run

ended : (ran : BoundReport) (o : Outcome) → Shows o ran → ran.output.items ≡ out_of o
ended ran (Ends arrays x out) s = s.3
ended ran (Traps t arrays out) s = s.3
ended ran (GoesOn out) s = s.2

module _ (ran : BoundReport) (old new : List ℕ) (r : Report) (status : ℕ) where
  running : (how : Stop) → IsCut how → how ≢ stop.Memory → Stops how ran old new r status → (new ≡ old) × Refuses (Failed failure.BudgetUsed) (length ran.output.items) r status
  running stop.Memory c ne x = absurd (ne refl)
  running stop.Running c ne x = x
  running stop.Ended c ne x = absurd c
  running (stop.Trapped t) c ne x = absurd c

  leaves_arguments : (o : Outcome) → Shows o ran → ran.stop ≢ stop.Memory → Stops ran.stop ran old new r status → LeavesArguments o old new r status
  leaves_arguments (Ends arrays x out) s ne k =
      let at : Stops stop.Ended ran old new r status = subst (λ z. Stops z ran old new r status) s.0 k in
      let bytes : new ≡ fronted (packed_answer arrays None) old = at.0 ∙ ap (λ z. fronted (packed_answer z None) old) s.1 in
      (bytes, subst (λ z. Done z (returned_bits x) r status) (ap length s.3) (subst (λ z. Done (length ran.output.items) (returned_bits z) r status) s.2 at.1))
  leaves_arguments (Traps t arrays out) s ne k =
      let at : Stops (stop.Trapped t) ran old new r status = subst (λ z. Stops z ran old new r status) s.0 k in
      let bytes : new ≡ fronted (packed_answer arrays None) old = at.0 ∙ ap (λ z. fronted (packed_answer z None) old) s.1 in
      (bytes, subst (λ z. Refuses (Failed (failure.Trapped t)) z r status) (ap length s.3) at.1)
  leaves_arguments (GoesOn out) s ne k =
      let at = running ran.stop s.0 ne k in
      (at.0, subst (λ z. Refuses (Failed failure.BudgetUsed) z r status) (ap length s.2) at.1)

module _ (ran : BoundReport) (old new room given : List ℕ) (r : Report) (status : ℕ) (d : Delivers ran old new room given r status) where
  leaves : (o : Outcome) → Shows o ran → ran.stop ≢ stop.Memory → Leaves o old new room given r status
  leaves o s ne = record {
    whole = λ le.
        let k = d.whole ne (subst (λ z. length z ≤ length room) (sym out) le) in
        (subst (λ z. given ≡ fronted z room) out k.0, leaves_arguments ran old new r status o s ne k.1);
    short = λ lt.
        let k = d.short ne (subst (λ z. length room < length z) (sym out) lt) in
        ((k.0, k.1), subst (λ z. Refuses Short (length z) r status) out k.2);
  }
    where
      out : ran.output.items ≡ out_of o
      out = ended ran o s

-- ---- names

and_true : (a b : Bool) → (a && b) ≡ true → (a ≡ true) × (b ≡ true)
and_true true b h = (refl, h)
and_true false b h = absurd (false≢true h)

ascii_byte : (b : ℕ) → is_word_byte b ≡ true → b < 128
ascii_byte b h = grind (arith, nat_tests, h)

ascii_first : (b : ℕ) → is_first_byte b ≡ true → b < 128
ascii_first b h = grind (arith, nat_tests, h)

ascii_bytes : (bs : List ℕ) → list_all is_word_byte bs ≡ true → IsAscii bs
ascii_bytes [] h i = omega arith
ascii_bytes (b ∷ bs) h zero = ascii_byte b (and_true (is_word_byte b) (list_all is_word_byte bs) h).0
ascii_bytes (b ∷ bs) h (suc i) = ascii_bytes bs (and_true (is_word_byte b) (list_all is_word_byte bs) h).1 i

name_is_text : (name : List ℕ) → name_fits name ≡ true → IsUtf8 name
name_is_text [] h = absurd (false≢true h)
name_is_text (b ∷ bs) h =
    let k = and_true (is_first_byte b) (list_all is_word_byte bs) h in
    IsUtf8-from_ascii (b ∷ bs) (λ i. at k i)
  where
    at : (is_first_byte b ≡ true) × (list_all is_word_byte bs ≡ true) → (i : ℕ) → slice_index (b ∷ bs) i < 128
    at k zero = ascii_first b k.0
    at k (suc i) = ascii_bytes bs k.1 i

fits_at : (hs : List Routine) (f : ℕ) (g : Routine) → list_all routine_fits hs ≡ true → slice_get hs f ≡ Some g → routine_fits g ≡ true
fits_at [] f g all e = absurd (let no : ⊥ = cc in no)
fits_at (k ∷ hs) zero g all e = let same : k ≡ g = cc in ap routine_fits (sym same) ∙ (and_true (routine_fits k) (list_all routine_fits hs) all).0
fits_at (k ∷ hs) (suc f) g all e = fits_at hs f g (and_true (routine_fits k) (list_all routine_fits hs) all).1 e

-- ---- one call after the other

decide : (s : Stop) → (s ≡ stop.Memory) ⊎ (s ≢ stop.Memory)
decide stop.Memory = inl refl
decide stop.Running = inr (λ e. let no : ⊥ = cc in no)
decide stop.Ended = inr (λ e. let no : ⊥ = cc in no)
decide (stop.Trapped t) = inr (λ e. let no : ⊥ = cc in no)

counted : (s : Stop) (budget m : ℕ) → s ≢ stop.Memory → Counts s budget m → m ≡ budget
counted stop.Memory budget m ne c = absurd (ne refl)
counted stop.Running budget m ne c = c
counted stop.Ended budget m ne c = c
counted (stop.Trapped t) budget m ne c = c

-- the code of the text is what the source is compiled to for this gang
compiled : (gang : Gang) (source text : List ℕ) (is : IsCodeText (gang_width gang) source text) → IsCompilation gang source is.code
compiled gang source text is = subst (λ g. IsCompilation g source is.code) (same_gang is.gang gang is.width_is) is.compiles

module _ (one : OneText) (none : Faultless) (law : BoundHeadline) (gang : Gang) (source text : List ℕ) (is : IsCodeText (gang_width gang) source text) where
  abbrev image : Listing
  image = is.code

  module _ (program : Program) (entry : List ℕ) (f : ℕ) (h : TFunction) (old : List ℕ) (xs : List Argument)
      (reads : IsSource gang source program) (export : IsExport program entry f h) (unpacked : unpacked_of h.parameters old ≡ Ok xs) where
    does : DoesAsMeantBound program image entry f h xs
    does =
        law gang source image (compiled gang source text is) program reads entry f h xs (record { export = export; fits = (unpacked_fits h.parameters old xs unpacked).kinds })
        (are_short h.parameters old xs unpacked)

    entry_is_text : IsUtf8 entry
    entry_is_text =
        let fits : routine_fits does.routine ≡ true = fits_at image.routines f does.routine is.loads.of.writable.routines does.export.found in
        subst IsUtf8 does.export.named (name_is_text does.routine.name (name_first does.routine fits))
      where
        name_first : (g : Routine) → routine_fits g ≡ true → name_fits g.name ≡ true
        name_first g e =
            let codes = (and_true _ (list_all instr_fits g.code) e).0 in
            let masks = (and_true _ (number_fits g.masks) codes).0 in
            let locals = (and_true _ (list_all local_fits g.locals) masks).0 in
            (and_true (name_fits g.name) (list_all param_fits g.params) locals).0

    -- what is taken are these arguments
    taken : (found : Result (List Argument) PackedFault) → Takes text entry old found → Ok xs ≡ found
    taken found t =
        let same : t.listing ≡ image = same_code one none text image is.loads t.listing t.loaded in
        let here : code.IsExport image entry t.function t.routine = subst (λ c. code.IsExport c entry t.function t.routine) same t.export in
        let ps : parameters_of t.routine ≡ h.parameters = ap parameters_of (does.only t.function t.routine here).1 ∙ does.parameters in
        sym unpacked ∙ ap (λ qs. unpacked_of qs old) (sym ps) ∙ t.unpacked

    no_entry : (c : Listing) → IsLoaded text c → ((k : ℕ) (g : Routine) → code.IsExport c entry k g → ⊥) → ⊥
    no_entry c loaded missing =
        missing f does.routine (subst (λ z. code.IsExport z entry f does.routine) (sym (same_code one none text image is.loads c loaded)) does.export)

    -- it is refused for want of memory alone
    no_run : (e : Refusal) → NoRun text entry old e → e ≡ Failed failure.Memory
    no_run (Failed failure.Memory) k = refl
    no_run (Failed (failure.CannotRead name)) k = absurd (k.1 is.utf8)
    no_run (Failed (failure.Code e)) k = absurd (not_refused one none text image is.loads e k)
    no_run (Failed (failure.Run run_fault.NoEntry)) k = absurd (⊎_elim (λ odd. odd entry_is_text) (λ found. no_entry found.0 found.1 found.2) k)
    no_run (Failed (failure.Run run_fault.Memory)) k = absurd k
    no_run (Failed (failure.Run (run_fault.Arguments b))) k = absurd k
    no_run (Failed (failure.Run run_fault.WriteFailed)) k = absurd k
    no_run (Failed (failure.Source e)) k = absurd k
    no_run (Failed (failure.Trapped t)) k = absurd k
    no_run (Failed failure.BudgetUsed) k = absurd k
    no_run (Failed (failure.TurnsUsed p)) k = absurd k
    no_run (Failed failure.CannotWrite) k = absurd k
    no_run (Failed (failure.NotIndependent d)) k = absurd k
    no_run (Failed (failure.NotApart name i)) k = absurd k
    no_run NoGang k = absurd k
    no_run (NoModule line) k = absurd k
    no_run Short k = absurd k
    no_run (Arguments e) k = let same : Ok xs ≡ Err e = taken (Err e) k in absurd (let no : ⊥ = cc in no)

    module _ (budget : ℕ) (new room given : List ℕ) (r : Report) (status : ℕ) where
      abbrev Promise : Type 0
      Promise =
          (LeavesAll old new room given × Refuses (Failed failure.Memory) 0 r status)
          ⊎ ((machine : ℕ → Outcome) × RunsAsMeant program f h xs machine × Leaves (machine budget) old new room given r status)

      ran_here : (ran : BoundReport) → RunsBound image entry xs budget ran → Delivers ran old new room given r status → Promise
      ran_here ran b d =
          let k = does.shown budget ran b in
          ⊎_elim
          (λ stopped. let m = d.memory stopped in inl ((m.0, m.1), m.2))
          (λ ne.
          let whole : k.0 ≡ budget = counted ran.stop budget k.0 ne k.1 in
          let shows : Shows (outcome_after image f does.routine xs budget) ran = subst (λ z. Shows (outcome_after image f does.routine xs z) ran) whole k.2 in
          inr (outcome_after image f does.routine xs, does.runs, leaves ran old new room given r status d (outcome_after image f does.routine xs budget) shows ne))
          (decide ran.stop)

      ran_as : (ran : BoundReport) → RunOf text entry old budget ran → RunsBound image entry xs budget ran
      ran_as ran k =
          let same : k.takes.listing ≡ image = same_code one none text image is.loads k.takes.listing k.takes.loaded in
          let args : xs ≡ k.arguments = ok_same xs k.arguments (taken (Ok k.arguments) k.takes) in
          subst (λ c. RunsBound c entry xs budget ran) same (subst (λ ys. RunsBound k.takes.listing entry ys budget ran) (sym args) k.machine)

      pub runs_as_meant : Runs text entry budget old new room given r status → Promise
      runs_as_meant x = of x.0 x.1 x.2
        where
          of : (answer : Result BoundReport Refusal) → Ran text entry old budget answer → Tells old new room given r status answer → Promise
          of (Ok ran) k d = ran_here ran (ran_as ran k) d
          of (Err e) k d = inl ((d.0, d.1), subst (λ z. Refuses z 0 r status) (no_run e k) d.2)

pub from_source : OneText → Faultless → BoundHeadline → FromSource
from_source one none law gang source room text first wrote program entry f h old xs reads export unpacked budget new output given r status x =
    runs_as_meant one none law gang source (take first.used text) (compiled_text (gang_width gang) source room text first wrote) program entry f h old xs reads export unpacked budget new
    output given r status x

pub from_source_to_c : OneText → Faultless → FromSourceToC
from_source_to_c one none gang source room text first wrote old new r x =
    let is : IsCodeText (gang_width gang) source (take first.used text) = compiled_text (gang_width gang) source room text first wrote in
    let file : IsCFile (take first.used text) (take r.used new) = c_file (take first.used text) old new r x in
    let same : file.listing ≡ is.code = same_code one none (take first.used text) is.code is.loads file.listing file.loaded in
    (is.code, compiled gang source (take first.used text) is, subst (λ c. IsCText c (take r.used new)) same file.file_is)

pub from_source_to_wasm : OneText → Faultless → ModuleHeadline → FromSourceToWasm
from_source_to_wasm one none law gang source room text first wrote old new r x =
    let is : IsCodeText (gang_width gang) source (take first.used text) = compiled_text (gang_width gang) source room text first wrote in
    let file : IsModuleFile (take first.used text) (take r.used new) = module_file (take first.used text) old new r x in
    let same : file.listing ≡ is.code = same_code one none (take first.used text) is.code is.loads file.listing file.loaded in
    let meant = compiled gang source (take first.used text) is in
    (is.code, meant, subst (λ l. IsWasmFile l (take r.used new)) same file.is_file, law gang source is.code meant is.loads.fine is.loads.of.writable)
