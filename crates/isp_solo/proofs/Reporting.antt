-- What the runs of an entry's instances come to is its report.
use Rattle.std.proofs.Common.{◌≡◌, sym, subst, ◌∙◌, ℕ, List, Some}
use Rattle.std.specs.Prelude.{IsSome, find, bytes_eq, ◌&&◌}
use Rattle.std.specs.List.{All}
use Rattle.isp_base.specs.Arguments.{rows}
use Rattle.isp_base.specs.Rows.{Fit}
use Rattle.isp_base.specs.Types.{gang_width}
use Rattle.isp_base.specs.declared.signature.Argument.{Argument}
use Rattle.isp_typed.specs.Typed.{Program as TProgram, TFunction}
use Rattle.isp_typed.specs.Views.{program_of}
use Rattle.isp_typed.specs.declared.function.Program.{Program}
use Rattle.isp_rates.specs.Exports.{entry_from}
use Rattle.isp_rates.specs.Accepted.{IsAccepted}
use Rattle.isp_independence.specs.Independent.{IsIndependent}
use Rattle.isp_meaning.specs.Entries.{IsEntry}
use Rattle.isp_solo_meaning.specs.Runs.{solo_run, bound}
use Rattle.isp_entry.specs.Entered.{Begins}
use Rattle.isp_type_laws.specs.Fits.{BitsFit}
use Rattle.isp_solo.specs.Came.{Came}
use Rattle.isp_solo.specs.Left.{rows_left}
use Rattle.isp_solo.specs.Report.{IsSoloReport, ReportFits, ReportOf, Says}
use Rattle.isp_solo.specs.declared.report.SoloReport.{SoloReport}
use Rattle.isp_solo.specs.declared.report.SoloReport.TheVariants.{Trapped, Cut, Clash, Ended}
use Rattle.isp_solo.proofs.Fitting.{rows_are, given_fits}
use Rattle.isp_solo.proofs.Named.{entry_is, entry_found}

module _ (program : TProgram) (name : List ℕ) (f : ℕ) (h : TFunction) (xs : List Argument) (n : ℕ) (accepted : IsAccepted program)
    (entry : IsEntry program name xs f h) (independent : IsIndependent program f) (fit : All (λ r. Fit r.elem r.bits) (rows xs)) where
  report_is : (r : SoloReport) → Says (gang_width program.gang) (solo_run program f n xs (bound xs)) xs (rows_left (solo_run program f n xs (bound xs)) (rows xs) (gang_width program.gang)) h.gives r → ReportOf program f h xs n r
  report_is (Trapped t) s = s
  report_is (Cut p) s = s
  report_is (Clash k e) s = s
  report_is (Ended arrays result) s = (s.0, s.1, s.2 ∙ rows_are program name f h xs n accepted entry independent fit s.0 s.1, s.3)

  report_fits : (r : SoloReport) → Says (gang_width program.gang) (solo_run program f n xs (bound xs)) xs (rows_left (solo_run program f n xs (bound xs)) (rows xs) (gang_width program.gang)) h.gives r → ReportFits r
  report_fits (Trapped t) s = tt
  report_fits (Cut p) s = tt
  report_fits (Clash k e) s = tt
  report_fits (Ended arrays result) s = subst BitsFit (sym s.3) (given_fits program name f h xs n accepted entry independent fit s.0 s.1)

-- ---- for the function that was found

module _ (p q : Program) (same : p ≡ q) (name : List ℕ) (f : ℕ) (xs : List Argument) (accepted : IsAccepted (program_of q)) (begins : Begins (program_of p) name xs f) where
  pub begins_there : Begins (program_of q) name xs f
  begins_there = subst (λ (z : Program). Begins (program_of z) name xs f) same begins

  pub entry_number : entry_from name 0 q.functions.items ≡ Some f
  entry_number =
      let e = begins_there.1.export in
      entry_is name q.functions.items f begins_there.0 accepted.fine.names e.found e.exported e.named

  pub entry_there : IsSome (find (λ g. g.exported && bytes_eq g.name name) q.functions.items)
  entry_there =
      let e = begins_there.1.export in
      entry_found name q.functions.items f begins_there.0 e.found e.exported e.named

  module _ (n : ℕ) (r : SoloReport) (independent : IsIndependent (program_of q) f) (fit : All (λ r. Fit r.elem r.bits) (rows xs)) (came : Came (program_of p) f xs n r) where
    came_there : Came (program_of q) f xs n r
    came_there = subst (λ (z : Program). Came (program_of z) f xs n r) same came

    pub reported : IsSoloReport (program_of q) name xs n r
    reported = (
      f,
      begins_there.0,
      begins_there.1,
      independent,
      report_is (program_of q) name f begins_there.0 xs n accepted begins_there.1 independent fit r (came_there begins_there.0 begins_there.1.export.found),
    )

    pub reported_fits : ReportFits r
    reported_fits = report_fits (program_of q) name f begins_there.0 xs n accepted begins_there.1 independent fit r (came_there begins_there.0 begins_there.1.export.found)
