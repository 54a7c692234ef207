-- What a run is reported as.
use Rattle.std.specs.Prelude.{◌≡◌, ◌≢◌, ℕ, List, None, Result, Ok, Err, MatchOption, string_bytes}
use Rattle.isp_base.specs.Outcomes.{Outcome, Ends, Traps, GoesOn}
use Rattle.isp_base.specs.declared.signature.Parameter.{Parameter}
use Rattle.isp_base.specs.declared.signature.Argument.{Argument}
use Rattle.isp_bind.specs.declared.fault.BindFault.{BindFault}
use Rattle.isp_bind.specs.Binding.{bound_of}
use Rattle.isp_bind.specs.Answering.{answer_text}
use Rattle.isp_code.specs.Entries.{IsExport, parameters_of}
use Rattle.isp_code.specs.Listing.{Listing, Routine}
use Rattle.isp_code.specs.Machine.{outcome_after}
use Rattle.isp_runs.specs.declared.fault.RunFault.{RunFault}
use Rattle.isp_runs.specs.declared.fault.RunFault.TheVariants.{Memory, NoEntry}
use Rattle.isp_runs.specs.declared.report.Ending.TheVariants.{Ended, Trapped, Running}
use Rattle.isp_runs.specs.declared.report.Report.{Report}
use Rattle.isp_runs.specs.RunFaults.{run_fault}

-- the report of an outcome; only an end has an answer
abbrev pub Reports : List Parameter → Outcome → Report → Type 0
Reports params (Ends arrays answer out) r = (r.ending ≡ Ended) × (r.output.items ≡ out) × MatchOption r.answer ⊥ (λ s. string_bytes s ≡ answer_text params arrays answer)
Reports params (Traps t arrays out) r = (r.ending ≡ Trapped t) × (r.output.items ≡ out) × (r.answer ≡ None)
Reports params (GoesOn out) r = (r.ending ≡ Running) × (r.output.items ≡ out) × (r.answer ≡ None)

-- a report of the function that is exported under a name
abbrev pub ReportsRun : Listing → List ℕ → List Parameter → List Argument → ℕ → Report → Type 0
ReportsRun code entry params xs budget r = (f : ℕ) (g : Routine) → IsExport code entry f g → Reports params (outcome_after code f g xs budget) r

-- a run of an entry is the machine's from the arguments that the text binds; else the refusal of the arguments, or want of memory
abbrev pub Runs : Listing → ℕ → Routine → List ℕ → ℕ → Result Report RunFault → Type 0
Runs code f g json budget (Ok r) =
    (xs : List Argument) × (bound_of (parameters_of g) json ≡ Ok xs) × Reports (parameters_of g) (outcome_after code f g xs budget) r
Runs code f g json budget (Err e) = e ≢ Memory → (b : BindFault) × (bound_of (parameters_of g) json ≡ Err b) × (e ≡ run_fault b)

-- 50 where nothing is exported under the name
pub record Executes (code : Listing) (entry json : List ℕ) (budget : ℕ) (answer : Result Report RunFault) : Type 0 where
  pub none : ((f : ℕ) (g : Routine) → IsExport code entry f g → ⊥) → answer ≡ Err NoEntry
  pub runs : (f : ℕ) (g : Routine) → IsExport code entry f g → Runs code f g json budget answer
