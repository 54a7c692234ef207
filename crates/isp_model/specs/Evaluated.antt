-- What an evaluation comes to, and when it is refused.
use Rattle.std.specs.Prelude.{◌≡◌, ℕ, List}
use Rattle.isp_base.specs.Outcomes as base
use Rattle.isp_base.specs.declared.signature.Argument.{Argument}
use Rattle.isp_typed.specs.Typed.{Program}
use Rattle.isp_meaning.specs.Runs.{run_of, work_of}
use Rattle.isp_type_laws.specs.Fits.{BitsFit}
use Rattle.isp_gang_run.specs.Capped.{capped}
use Rattle.isp_entry.specs.Entered.{Begins, NoneBegins}
use Rattle.isp_entry.specs.declared.fault.EvalFault.{EvalFault}
use Rattle.isp_entry.specs.declared.fault.EvalFault.TheVariants.{Memory, NoEntry, NotIndependent}
use Rattle.isp_model.specs.declared.outcome.Outcome.{Outcome}
use Rattle.isp_model.specs.declared.outcome.Outcome.TheVariants.{Ends, Traps, Cut}

abbrev pub outcome_seen : Outcome → base.Outcome
outcome_seen (Ends arrays result output) = base.Ends arrays.items result output.items
outcome_seen (Traps trap arrays output) = base.Traps trap arrays.items output.items
outcome_seen (Cut output) = base.GoesOn output.items

-- the outcome is that of the run of n turns of a function with which a run can begin
abbrev pub IsRun : Program → List ℕ → List Argument → ℕ → Outcome → Type 0
IsRun program name xs n o = (f : ℕ) × Begins program name xs f × (outcome_seen o ≡ run_of program f n xs)

-- the work of that run, as far as 64 bits count
abbrev pub IsWork : Program → List ℕ → List Argument → ℕ → ℕ → Type 0
IsWork program name xs n k = (f : ℕ) × Begins program name xs f × (k ≡ capped (work_of program f n xs))

-- what was given back fits its type
abbrev pub ResultFits : Outcome → Type 0
ResultFits (Ends arrays result output) = BitsFit result
ResultFits (Traps trap arrays output) = Unit {0}
ResultFits (Cut output) = Unit {0}

-- memory may be refused at any time; else an evaluation is refused exactly where no run can begin, and for nothing else
abbrev pub IsRefused : EvalFault → Program → List ℕ → List Argument → Type 0
IsRefused Memory program name xs = Unit {0}
IsRefused NoEntry program name xs = NoneBegins program name xs
IsRefused (NotIndependent d) program name xs = ⊥
