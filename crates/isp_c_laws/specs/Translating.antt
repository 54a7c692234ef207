-- What isp_native does.
use Rattle.std.specs.Prelude.{◌≡◌, ℕ, List, Result, Ok, Err}
use Rattle.isp_code.specs.Listing.{Listing}
use Rattle.isp_runs.specs.Loading.{IsLoaded}
use Rattle.isp_native.specs.Text.{IsCText}
use Rattle.isp_reports.specs.Rooms.{Answers}
use Rattle.isp_c_laws.specs.Running.{NoCode}
use Rattle.isp_reports.specs.declared.refusal.Refusal.{Refusal}
use Rattle.isp_reports.specs.declared.report.Report.{Report}

-- the C file of the code that a text is
pub record IsCFile (code file : List ℕ) : Type 0 where
  pub listing : Listing
  pub loaded : IsLoaded code listing
  pub file_is : IsCText listing file

abbrev pub IsFile : List ℕ → Result (List ℕ) Refusal → Type 0
IsFile code (Ok file) = IsCFile code file
IsFile code (Err f) = NoCode code f

abbrev pub Translates : List ℕ → List ℕ → List ℕ → Report → ℕ → Type 0
Translates code old new r status = (answer : Result (List ℕ) Refusal) × IsFile code answer × Answers old new r status answer
