-- What the runs of a function's instances come to, where the rows that they leave are put together run by run.
use Rattle.std.specs.Prelude.{◌≡◌, ℕ, List, Some, slice_get}
use Rattle.isp_base.specs.Arguments.{rows}
use Rattle.isp_base.specs.Types.{gang_width}
use Rattle.isp_base.specs.declared.signature.Argument.{Argument}
use Rattle.isp_typed.specs.Typed.{Program, TFunction}
use Rattle.isp_solo_meaning.specs.Runs.{solo_run, bound}
use Rattle.isp_solo.specs.Left.{rows_left}
use Rattle.isp_solo.specs.Report.{Says}
use Rattle.isp_solo.specs.declared.report.SoloReport.{SoloReport}

abbrev pub Came : Program → ℕ → List Argument → ℕ → SoloReport → Type 0
Came program f xs n r =
    (h : TFunction) → slice_get program.functions f ≡ Some h
    → Says (gang_width program.gang) (solo_run program f n xs (bound xs)) xs (rows_left (solo_run program f n xs (bound xs)) (rows xs) (gang_width program.gang)) h.gives r
