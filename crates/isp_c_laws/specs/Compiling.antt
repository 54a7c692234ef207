-- What isp_compile does.
use Rattle.std.specs.Prelude.{◌≡◌, ◌≢◌, ℕ, List, codes, Result, Ok, Err, IsUtf8}
use Rattle.isp_base.specs.Types.{gang_width}
use Rattle.isp_base.specs.declared.types.Gang.{Gang}
use Rattle.isp_code.specs.Listing.{Listing}
use Rattle.isp_runs.specs.Compilation.{IsCompilation}
use Rattle.isp_front.specs.Front.{IsFaulty}
use Rattle.isp_runs.specs.Loading.{IsLoaded}
use Rattle.isp_engine.specs.declared.failure.Failure.TheVariants.{Source, CannotRead, Memory}
use Rattle.isp_reports.specs.Rooms.{Answers}
use Rattle.isp_reports.specs.declared.refusal.Refusal.{Refusal}
use Rattle.isp_reports.specs.declared.refusal.Refusal.TheVariants.{NoGang, Failed}
use Rattle.isp_reports.specs.declared.report.Report.{Report}

-- the text that is loaded as the code that the source is compiled to
pub record IsCodeText (width : ℕ) (source text : List ℕ) : Type 0 where
  pub gang : Gang
  pub width_is : gang_width gang ≡ width
  pub code : Listing
  pub compiles : IsCompilation gang source code
  pub loads : IsLoaded text code
  pub utf8 : IsUtf8 text

-- why there is none
abbrev pub NoCodeText : ℕ → List ℕ → Refusal → Type 0
NoCodeText width source NoGang = (g : Gang) → gang_width g ≢ width
NoCodeText width source (Failed (Source f)) = (g : Gang) × (gang_width g ≡ width) × IsFaulty g source f
NoCodeText width source (Failed (CannotRead name)) = (name.now ≡ codes "source") × (IsUtf8 source → ⊥)
NoCodeText width source (Failed Memory) = Unit {0}
NoCodeText width source f = ⊥

abbrev pub IsText : ℕ → List ℕ → Result (List ℕ) Refusal → Type 0
IsText width source (Ok text) = IsCodeText width source text
IsText width source (Err f) = NoCodeText width source f

abbrev pub Compiles : ℕ → List ℕ → List ℕ → List ℕ → Report → ℕ → Type 0
Compiles width source old new r status = (answer : Result (List ℕ) Refusal) × IsText width source answer × Answers old new r status answer
