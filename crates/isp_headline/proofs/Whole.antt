-- Both halves, of a text, its code, an entry and its arguments.
use Rattle.std.proofs.Common.{◌≡◌, ◌≢◌, ℕ, List, Bool, Option, Some, Result, Ok, Err, refl, sym, ap, ◌∙◌, subst, ⊎_elim, arith}
use Rattle.std.specs.Prelude.{slice_get}
use Rattle.isp_base.specs.Arguments.{AreShort, rows}
use Rattle.isp_base.specs.Outcomes.{Outcome}
use Rattle.isp_base.specs.declared.signature.Argument.{Argument}
use Rattle.isp_bind.specs.Binding.{bound_of}
use Rattle.isp_bind.specs.declared.fault.BindFault.{BindFault}
use Rattle.isp_code.specs.Conf.{Runs as Going}
use Rattle.isp_code.specs.Entries as code
use Rattle.isp_code.specs.Entries.{parameters_of}
use Rattle.isp_code.specs.Listing.{Listing, Routine}
use Rattle.isp_code.specs.Machine.{after, first_conf, outcome_after}
use Rattle.isp_typed.specs.Typed.{Program, TFunction}
use Rattle.isp_rates.specs.Accepted.{IsAccepted}
use Rattle.isp_meaning.specs.Entries.{IsEntry, IsExport}
use Rattle.isp_meaning.specs.Runs.{run_of}
use Rattle.isp_masks_code.specs.Agreement.{Agrees, RunsAgree}
use Rattle.isp_runs.specs.declared.fault.RunFault.{RunFault}
use Rattle.isp_runs.specs.declared.fault.RunFault.TheVariants.{Memory, NoEntry, Arguments, WriteFailed}
use Rattle.isp_runs.specs.declared.report.BoundReport.{BoundReport}
use Rattle.isp_runs.specs.declared.report.Report.{Report}
use Rattle.isp_runs.specs.BoundReports.{Counts, RunsBound, Shows}
use Rattle.isp_runs.specs.Reports.{Executes, Reports, Runs}
use Rattle.isp_runs.specs.Sending.{Sends, SentSome}
use Rattle.isp_output.specs.Sinks.{TookAll}
use Rattle.isp_runs.proofs.Binds.{short, fits}
use Rattle.isp_runs.proofs.BoundRuns.{shows}
use Rattle.isp_runs.proofs.Sends.{report_sent}
use Rattle.isp_headline.specs.BoundHeadline.{BoundHeadline, DoesAsMeantBound}
use Rattle.isp_headline.specs.Headline.{left_by_each, DoesAsMeant, Headline, Reported, RunsAsMeant, Sent, SentFirst}
use Rattle.isp_headline.proofs.Programs.{one_program, one_export}
use Rattle.isp_headline.proofs.Same.{does_the_same}
use Rattle.isp_headline.proofs.Turns.{gang_comes}

-- ---- a program and code that agrees with it

module _ (program : Program) (image : Listing) (accepted : IsAccepted program) (agrees : Agrees program image) where
  runs_as_meant : (entry : List ℕ) (f : ℕ) (h : TFunction) (g : Routine) (xs : List Argument) → IsEntry program entry xs f h → RunsAgree program image f g xs
      → RunsAsMeant program f h xs (outcome_after image f g xs)
  runs_as_meant entry f h g xs starts agree =
      let same = does_the_same program image f g xs agree in
      record {
        same = same;
        within = λ n over. agree.soon n (run_of program f n xs) over refl;
        one_by_one = λ turns alone ps order p lt. (same.over (left_by_each program f h turns xs ps p) tt).0 (gang_comes program entry f h xs turns accepted starts alone ps order p lt);
      }

  -- one function of the code is exported under a name
  one_routine : (entry : List ℕ) (f k : ℕ) (g l : Routine) → code.IsExport image entry f g → code.IsExport image entry k l → (k ≡ f) × (l ≡ g)
  one_routine entry f k g l a b =
      let x = agrees.exports_only entry f g a in
      let y = agrees.exports_only entry k l b in
      let place : k ≡ f = (one_export program entry k f y.0 x.0 accepted y.1 x.1).0 in
      (place, same_some l g (sym b.found ∙ ap (slice_get image.routines) place ∙ a.found))
    where
      same_some : (l g : Routine) → Some l ≡ Some g → l ≡ g
      same_some l g e = cc

  -- what `execute_bound` reports
  same_shown : (f k : ℕ) (g l : Routine) (xs : List Argument) (m : ℕ) (r : BoundReport) → (k ≡ f) × (l ≡ g) → Shows (outcome_after image k l xs m) r → Shows (outcome_after image f g xs m) r
  same_shown f k g l xs m r same x =
      subst (λ z. Shows (outcome_after image f z xs m) r) same.1 (subst (λ z. Shows (outcome_after image z l xs m) r) same.0 x)

  shown_by : (entry : List ℕ) (f : ℕ) (g : Routine) (xs : List Argument) → code.IsExport image entry f g → (budget : ℕ) (r : BoundReport) → RunsBound image entry xs budget r
      → (m : ℕ) × Counts r.stop budget m × Shows (outcome_after image f g xs m) r
  shown_by entry f g xs export budget r ran = (
    ran.count,
    ran.counts,
    same_shown f ran.function g ran.routine xs ran.count r (one_routine entry f ran.function g ran.routine export ran.is_entry.export)
        (shows (rows xs) (after image ran.count (Going (first_conf image ran.function ran.routine xs))) r ran.leaves),
  )

  pub does_as_meant_bound : (entry : List ℕ) (f : ℕ) (h : TFunction) (xs : List Argument) → IsEntry program entry xs f h → AreShort xs → DoesAsMeantBound program image entry f h xs
  does_as_meant_bound entry f h xs starts few =
      let k = agrees.exports entry f h starts.export in
      record {
        routine = k.0;
        export = k.1;
        only = λ n g x. one_routine entry f n k.0 g k.1 x;
        parameters = k.2.parameters;
        runs = runs_as_meant entry f h k.0 xs starts (k.2.runs xs starts.fits few);
        shown = λ budget r ran. shown_by entry f k.0 xs k.1 budget r ran;
      }

-- ---- what is told of a function whose arguments a text binds

module _ (image : Listing) (f : ℕ) (h : TFunction) (g : Routine) (json : List ℕ) (xs : List Argument) (parameters : parameters_of g ≡ h.parameters) (is : bound_of h.parameters json ≡ Ok xs) (budget : ℕ) where
  same_ok : (ys : List Argument) → bound_of (parameters_of g) json ≡ Ok ys → ys ≡ xs
  same_ok ys e = let i : bound_of h.parameters json ≡ Ok ys = subst (λ ps. bound_of ps json ≡ Ok ys) parameters e in cc

  never_refused : (b : BindFault) → bound_of (parameters_of g) json ≡ Err b → ⊥
  never_refused b e = let i : bound_of h.parameters json ≡ Err b = subst (λ ps. bound_of ps json ≡ Err b) parameters e in cc

  pub reported : (answer : Result Report RunFault) → Runs image f g json budget answer → Reported h.parameters (outcome_after image f g xs budget) answer
  reported (Ok r) x =
      subst (λ ps. Reports ps (outcome_after image f g xs budget) r) parameters (subst (λ ys. Reports (parameters_of g) (outcome_after image f g ys budget) r) (same_ok x.0 x.1) x.2)
  reported (Err Memory) x = refl
  reported (Err NoEntry) x = let y = x (λ e. let no : ⊥ = cc in no) in absurd (never_refused y.0 y.1)
  reported (Err (Arguments b)) x = let y = x (λ e. let no : ⊥ = cc in no) in absurd (never_refused y.0 y.1)
  reported (Err WriteFailed) x = let y = x (λ e. let no : ⊥ = cc in no) in absurd (never_refused y.0 y.1)

  module _ (entry : List ℕ) (export : code.IsExport image entry f g) (only : (k : ℕ) (l : Routine) → code.IsExport image entry k l → (k ≡ f) × (l ≡ g)) (old new : Option (List ℕ)) where
    abbrev machine : ℕ → Outcome
    machine m = outcome_after image f g xs m

    -- some function that is exported under the name has sent its first bytes, and it is this one
    first_of : (k : ℕ) (l : Routine) (ys : List Argument) → (k ≡ f) × (l ≡ g) → bound_of (parameters_of l) json ≡ Ok ys
        → SentFirst (parameters_of l) (outcome_after image k l ys) budget old new → SentFirst h.parameters machine budget old new
    first_of k l ys same bound x =
        let ps : parameters_of l ≡ parameters_of g = ap parameters_of same.1 in
        let args : ys ≡ xs = same_ok ys (subst (λ qs. bound_of qs json ≡ Ok ys) ps bound) in
        subst (λ z. SentFirst h.parameters (outcome_after image f g z) budget old new) args
        (subst (λ z. SentFirst h.parameters (outcome_after image f z ys) budget old new) same.1
        (subst (λ z. SentFirst h.parameters (outcome_after image z l ys) budget old new) same.0
        (subst (λ qs. SentFirst qs (outcome_after image k l ys) budget old new) (ps ∙ parameters) x)))

    first_sent : SentSome image entry json budget old new → SentFirst h.parameters machine budget old new
    first_sent s = first_of s.function s.routine s.arguments (only s.function s.routine s.export) s.bound s.first

    pub sent_as : (failed : Bool) (answer : Result Report RunFault) → (answer ≢ Err WriteFailed → Executes image entry json budget answer)
        → Sends image entry json budget old new failed answer → Sent h.parameters machine budget old new failed answer
    sent_as failed (Ok r) x s =
        let reports : Reports h.parameters (machine budget) r = reported (Ok r) ((x (λ e. let no : ⊥ = cc in no)).runs f g export) in
        (reports, subst (λ z. TookAll z old new failed) (report_sent h.parameters (machine budget) r reports) s)
    sent_as failed (Err Memory) x s =
        ⊎_elim (λ none. ((0, omega arith, (0, none.0)), none.1)) (λ some. (first_sent some.0, some.1)) s
    sent_as failed (Err WriteFailed) x s = (first_sent s.0, s.1)
    sent_as failed (Err NoEntry) x s =
        let no_memory : NoEntry ≡ Memory = reported (Err NoEntry) ((x (λ e. let no : ⊥ = cc in no)).runs f g export) in
        absurd (let no : ⊥ = cc in no)
    sent_as failed (Err (Arguments b)) x s =
        let no_memory : Arguments b ≡ Memory = reported (Err (Arguments b)) ((x (λ e. let no : ⊥ = cc in no)).runs f g export) in
        absurd (let no : ⊥ = cc in no)

-- ---- the whole

pub does_as_meant : (program : Program) (image : Listing) → IsAccepted program → Agrees program image → (entry json : List ℕ) (f : ℕ) (h : TFunction) (xs : List Argument) → IsExport program entry f h → bound_of h.parameters json ≡ Ok xs
    → DoesAsMeant program image entry json f h xs
does_as_meant program image accepted agrees entry json f h xs export is =
    let starts : IsEntry program entry xs f h = record { export = export; fits = fits h.parameters json xs is } in
    let it = does_as_meant_bound program image accepted agrees entry f h xs starts (short h.parameters json xs is) in
    record {
      routine = it.routine;
      export = it.export;
      runs = it.runs;
      reported = λ budget answer x. reported image f h it.routine json xs it.parameters is budget answer (x.runs f it.routine it.export);
      sent = λ budget old new failed answer x s. sent_as image f h it.routine json xs it.parameters is budget entry it.export it.only old new failed answer x s;
    }

-- the program that the text is, is that which was compiled
pub headline : Headline
headline gang text image compiled program source =
    let same : compiled.program ≡ program = one_program gang text compiled.program program compiled.source source in
    does_as_meant program image (subst IsAccepted same compiled.accepted) (subst (λ z. Agrees z image) same compiled.agrees)

pub bound_headline : BoundHeadline
bound_headline gang text image compiled program source =
    let same : compiled.program ≡ program = one_program gang text compiled.program program compiled.source source in
    does_as_meant_bound program image (subst IsAccepted same compiled.accepted) (subst (λ z. Agrees z image) same compiled.agrees)
