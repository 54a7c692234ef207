-- What isp_wasm does.
use Rattle.std.specs.Prelude.{◌≡◌, ◌≢◌, ◌⊎◌, ℕ, List, None, Result, Ok, Err, string_bytes}
use Rattle.isp_code.specs.Listing.{Listing}
use Rattle.isp_engine.specs.declared.failure.Failure.TheVariants.{Memory}
use Rattle.isp_reports.specs.Rooms.{Answers}
use Rattle.isp_reports.specs.declared.refusal.Refusal.{Refusal}
use Rattle.isp_reports.specs.declared.refusal.Refusal.TheVariants.{Failed, NoModule}
use Rattle.isp_reports.specs.declared.report.Report.{Report}
use Rattle.isp_runs.specs.Loading.{IsLoaded}
use Rattle.isp_wasm_file.specs.File.{IsFile}
use Rattle.isp_wasm_file.specs.Lines.{refusal_line}
use Rattle.isp_wasm_module.specs.Refused.{explains, module_refusal}
use Rattle.isp_wasm_module.specs.declared.refusal.Refusal.{Refusal as Why}
use Rattle.isp_wasm_module.specs.declared.refusal.Refusal.TheVariants as why
use Rattle.isp_c_laws.specs.Running.{NoCode}

-- the file of the module of the code that a text is
pub record IsModuleFile (code file : List ℕ) : Type 0 where
  pub listing : Listing
  pub loaded : IsLoaded code listing
  pub covered : module_refusal listing ≡ None
  pub is_file : IsFile listing file

-- why code that was loaded has no module: the line says what its functions are refused for; or memory was refused
abbrev pub HasNoModule : Listing → Refusal → Type 0
HasNoModule c (NoModule line) = (r : Why) × (r ≢ why.Memory) × explains r (module_refusal c) × (string_bytes line ≡ refusal_line c r)
HasNoModule c (Failed Memory) = Unit {0}
HasNoModule c f = ⊥

-- why there is no file: the bytes give no code, or the code has no module
abbrev pub NoModuleFile : List ℕ → Refusal → Type 0
NoModuleFile code f = NoCode code f ⊎ ((c : Listing) × IsLoaded code c × HasNoModule c f)

abbrev pub IsModule : List ℕ → Result (List ℕ) Refusal → Type 0
IsModule code (Ok file) = IsModuleFile code file
IsModule code (Err f) = NoModuleFile code f

abbrev pub MakesModule : List ℕ → List ℕ → List ℕ → Report → ℕ → Type 0
MakesModule code old new r status = (answer : Result (List ℕ) Refusal) × IsModule code answer × Answers old new r status answer
