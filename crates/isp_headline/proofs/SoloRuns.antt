-- What is told of instances one by one is told of a run.
use Rattle.std.proofs.Common.{◌≡◌, ℕ, ◌≤◌, List, [], ◌∷◌, ◌++◌, true, Some, None, Result, Ok, Err, sym, ap, subst, ◌∙◌}
use Rattle.std.specs.Prelude.{Option, MatchOption, String, string_bytes}
use Rattle.std.specs.declared.alloc.Global.{Global}
use Rattle.isp_base.proofs.Gangs.{some_width}
use Rattle.isp_base.specs.Binding.{has_signature}
use Rattle.isp_base.specs.Outcomes.{Outcome, Ends, IsOver}
use Rattle.isp_base.specs.Rows.{Row}
use Rattle.isp_base.specs.Types.{gang_width}
use Rattle.isp_base.specs.declared.signature.Argument.{Argument}
use Rattle.isp_base.specs.declared.signature.Parameter.{Parameter}
use Rattle.isp_base.specs.declared.types.Value.{Value}
use Rattle.isp_bind.specs.Answering.{answer_text}
use Rattle.isp_code.specs.Listing.{Listing}
use Rattle.isp_code.specs.Machine.{outcome_after}
use Rattle.isp_typed.specs.Typed.{Program, TFunction}
use Rattle.isp_independence.specs.Independent.{IsIndependent}
use Rattle.isp_rates.specs.Accepted.{IsAccepted}
use Rattle.isp_meaning.specs.Entries.{IsEntry}
use Rattle.isp_meaning.specs.Payloads.{One}
use Rattle.isp_meaning.specs.Runs.{run_of, answer_as}
use Rattle.isp_solo_meaning.specs.Runs.{solo_run, bound, value_of}
use Rattle.isp_solo_laws.proofs.Entry.{solo_runs_agree}
use Rattle.isp_solo.specs.Report.{upward, ReportOf}
use Rattle.isp_solo.specs.declared.report.SoloReport.{SoloReport}
use Rattle.isp_solo.specs.declared.report.SoloReport.TheVariants as report
use Rattle.isp_solo.proofs.Upward.{upward_order}
use Rattle.isp_runs.specs.declared.fault.RunFault.{RunFault}
use Rattle.isp_runs.specs.declared.report.Report.{Report}
use Rattle.isp_runs.specs.Meaning.{enough}
use Rattle.isp_runs.specs.Reports.{Executes}
use Rattle.isp_runs.specs.Sending.{answer_bytes}
use Rattle.isp_commands.specs.Solos.{Tells}
use Rattle.isp_headline.specs.Headline.{DoesAsMeant, Reported}
use Rattle.isp_headline.specs.SoloIsRun.{EndsWith, SoloIsRun}
use Rattle.isp_headline.proofs.Whole.{headline}
use Rattle.isp_headline.proofs.Programs.{one_program, one_export}

-- ---- the bytes of a report

-- an answer is there, and goes out with a line feed
answer_is : (a : Option (String Global)) (text : List ℕ) → MatchOption a ⊥ (λ s. string_bytes s ≡ text) → answer_bytes a ≡ text ++ 10 ∷ []
answer_is None text h = absurd h
answer_is (Some s) text h = ap (λ z. z ++ 10 ∷ []) h

-- the report of an end without output
ends_with : (ps : List Parameter) (arrays : List Row) (value : Option Value) (answer : Result Report RunFault) → Reported ps (Ends arrays value []) answer → EndsWith (answer_text ps arrays value ++ 10 ∷ []) answer
ends_with ps arrays value (Ok r) h = (h.0, ap (λ z. z ++ answer_bytes r.answer) h.1 ∙ answer_is r.answer (answer_text ps arrays value) h.2)
ends_with ps arrays value (Err e) h = h

-- ---- one function

module _ (program : Program) (image : Listing) (entry json : List ℕ) (turns : ℕ) (bytes : List ℕ) (f : ℕ) (h : TFunction) (xs : List Argument) where
  module _ (starts : IsEntry program entry xs f h) (accepted : IsAccepted program) (does : DoesAsMeant program image entry json f h xs) where
    module _ (budget : ℕ) (few : enough program f xs turns ≤ budget) (answer : Result Report RunFault) (x : Executes image entry json budget answer) where
      -- the machine stands where the gang has ended
      stands : (o : Outcome) → IsOver o → run_of program f turns xs ≡ o → outcome_after image f does.routine xs budget ≡ o
      stands o over e =
          let first : outcome_after image f does.routine xs (enough program f xs turns) ≡ run_of program f turns xs = does.runs.within turns (subst IsOver (sym e) over) in
          does.runs.same.stays (enough program f xs turns) budget few (subst IsOver (sym (first ∙ e)) over) ∙ first ∙ e

      ends_as : (arrays : List Row) (value : Option Value) → run_of program f turns xs ≡ Ends arrays value [] → EndsWith (answer_text h.parameters arrays value ++ 10 ∷ []) answer
      ends_as arrays value e =
          ends_with h.parameters arrays value answer (subst (λ o. Reported h.parameters o answer) (stands (Ends arrays value []) tt e) (does.reported budget answer x))

      -- only the report of an end is told as bytes
      pub told_ends : (r : SoloReport) → IsIndependent program f → ReportOf program f h xs turns r → Tells h.parameters r (Ok bytes) → EndsWith bytes answer
      told_ends (report.Trapped t) independent is tells = absurd tells
      told_ends (report.Cut p) independent is tells = absurd tells
      told_ends (report.Clash k e) independent is tells = absurd tells
      told_ends (report.Ended arrays result) independent is tells =
          let gang = gang_width program.gang in
          let value = answer_as h.gives (One (value_of (solo_run program f turns xs (bound xs) 0))) in
          let agree = solo_runs_agree program entry f h xs turns accepted starts independent is.0 is.1 (upward gang) (upward_order gang) 0 (some_width program.gang) in
          let left : run_of program f turns xs ≡ Ends arrays.items result [] = agree ∙ ap (λ (a : List Row). Ends a value []) (sym is.2) ∙ ap (λ (v : Option Value). Ends arrays.items v []) (sym is.3) in
          subst (λ b. EndsWith b answer) (sym tells) (ends_as arrays.items result left)

-- ---- an entry of a text

pub solo_is_run : SoloIsRun
solo_is_run gang text program image source compiled entry json turns bytes told budget few answer x =
    let same : compiled.program ≡ program = one_program gang text compiled.program program compiled.source source in
    let accepted : IsAccepted program = subst IsAccepted same compiled.accepted in
    let e = told.entered in
    let does = headline gang text image compiled program source entry json e.number told.function told.bound e.export e.binds in
    let r = told.reports in
    let is_one = one_export program entry r.0 e.number r.1 told.function accepted r.2.export e.export in
    told_ends program image entry json turns bytes e.number told.function told.bound
    (record { export = e.export; fits = subst (λ (k : TFunction). has_signature k.parameters told.bound ≡ true) is_one.1 r.2.fits }) accepted does budget few answer x told.report
    (subst (IsIndependent program) is_one.0 r.3)
    (subst (λ (k : TFunction). ReportOf program e.number k told.bound turns told.report) is_one.1 (subst (λ k. ReportOf program k r.1 told.bound turns told.report) is_one.0 r.4))
    told.tells
