-- What `solo` answers is what a run answers.
use Rattle.std.specs.Prelude.{◌≡◌, ℕ, ◌≤◌, List, Result, Ok, Err}
use Rattle.isp_base.specs.declared.types.Gang.{Gang}
use Rattle.isp_code.specs.Listing.{Listing}
use Rattle.isp_typed.specs.Typed.{Program}
use Rattle.isp_runs.specs.declared.fault.RunFault.{RunFault}
use Rattle.isp_runs.specs.declared.fault.RunFault.TheVariants.{Memory}
use Rattle.isp_runs.specs.declared.report.Ending.TheVariants.{Ended}
use Rattle.isp_runs.specs.declared.report.Report.{Report}
use Rattle.isp_front.specs.Front.{IsSource}
use Rattle.isp_runs.specs.Compilation.{IsCompilation}
use Rattle.isp_runs.specs.Meaning.{enough}
use Rattle.isp_runs.specs.Reports.{Executes}
use Rattle.isp_runs.specs.Sending.{report_bytes}
use Rattle.isp_commands.specs.Solos.{IsTold}

-- `execute` answers the report of an end that sends these bytes, unless memory was refused
abbrev pub EndsWith : List ℕ → Result Report RunFault → Type 0
EndsWith bytes (Ok r) = (r.ending ≡ Ended) × (report_bytes r ≡ bytes)
EndsWith bytes (Err e) = e ≡ Memory

-- Where `solo` tells these bytes of an entry, with so many turns, each run of its code tells them whose budget is enough for the
-- work of the gang with as many turns.
abbrev pub SoloIsRun : Type 0
SoloIsRun =
    (gang : Gang) (text : List ℕ) (program : Program) (image : Listing)
    → IsSource gang text program
    → IsCompilation gang text image
    → (entry json : List ℕ) (turns : ℕ) (bytes : List ℕ) (told : IsTold program entry json turns (Ok bytes)) (budget : ℕ)
    → enough program told.entered.number told.bound turns ≤ budget
    → (answer : Result Report RunFault)
    → Executes image entry json budget answer
    → EndsWith bytes answer
