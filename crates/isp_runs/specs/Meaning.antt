-- What a run answers, by the meaning of the program that it runs.
--     Tells program f h xs b ..     what is told of b instructions, and the runs of function f from the arguments xs
--     Means program entry json b r  the answer to a run of the function of a name, from a JSON text
use Rattle.std.specs.Prelude.{◌≡◌, ◌≢◌, ℕ, ◌+◌, ◌*◌, ◌<◌, ◌≤◌, List, Result, Ok, Err}
use Rattle.isp_base.specs.Outcomes.{Outcome, out_of, IsOver}
use Rattle.isp_base.specs.Prefixes.{IsPrefix}
use Rattle.isp_base.specs.Types.{gang_width}
use Rattle.isp_base.specs.declared.signature.Argument.{Argument}
use Rattle.isp_bind.specs.Binding.{bound_of}
use Rattle.isp_bind.specs.declared.fault.BindFault.{BindFault}
use Rattle.isp_solo_meaning.specs.OneByOne.{IsOrder}
use Rattle.isp_meaning.specs.Entries.{IsExport}
use Rattle.isp_meaning.specs.Runs.{run_of, work_of}
use Rattle.isp_typed.specs.Typed.{Program, TFunction}
use Rattle.isp_runs.specs.declared.fault.RunFault.{RunFault}
use Rattle.isp_runs.specs.declared.fault.RunFault.TheVariants.{Memory, NoEntry}
use Rattle.isp_runs.specs.declared.report.Ending.TheVariants.{Running}
use Rattle.isp_runs.specs.declared.report.Report.{Report}
use Rattle.isp_runs.specs.RunFaults.{run_fault}
use Rattle.isp_runs.specs.OneByOne.{StandAlone, left_one_by_one}
use Rattle.isp_runs.specs.Reports.{Reports}

-- enough instructions for the work of the run of n turns
abbrev pub enough : Program → ℕ → List Argument → ℕ → ℕ
enough program f xs n = 32 * work_of program f n xs + 32

-- what is told of so many instructions, and the runs of n turns for each number n: `says` of an outcome that it is told,
-- `over` that it is told of an end or a trap, and `out` is the output
pub record Tells (program : Program) (f : ℕ) (h : TFunction) (xs : List Argument) (budget : ℕ) (says : Outcome → Type 0) (over : Type 0) (out : List ℕ) : Type 0 where
  -- what has ended or trapped is as a run of the function is
  pub only : over → (n : ℕ) × says (run_of program f n xs)
  -- as each run that ends or traps, where the budget is enough for its work
  pub reached : (n : ℕ) → IsOver (run_of program f n xs) → enough program f xs n ≤ budget → says (run_of program f n xs)
  -- where its instances stand alone: as they leave it one by one, in any order, with the result of each
  pub one_by_one : (n : ℕ) → StandAlone program f xs n → (ps : List ℕ) → IsOrder (gang_width program.gang) ps → (p : ℕ) → p < gang_width program.gang
      → enough program f xs n ≤ budget → says (left_one_by_one program f h xs n ps p)
  -- the output begins that of each run that ends or traps
  pub so_far : (n : ℕ) → IsOver (run_of program f n xs) → IsPrefix out (out_of (run_of program f n xs))
  -- and in any case that of some run
  pub so_far_some : (n : ℕ) × IsPrefix out (out_of (run_of program f n xs))
  -- and it begins with that of each run for whose work the budget is enough
  pub written : (n : ℕ) → enough program f xs n ≤ budget → IsPrefix (out_of (run_of program f n xs)) out

-- so of a report
abbrev pub ReportTells : Program → ℕ → TFunction → List Argument → ℕ → Report → Type 0
ReportTells program f h xs budget r = Tells program f h xs budget (λ o. Reports h.parameters o r) (r.ending ≢ Running) r.output.items

-- the report of a run from the arguments that the text binds, the refusal of the arguments, or want of memory
abbrev pub MeansOf : Program → ℕ → TFunction → List ℕ → ℕ → Result Report RunFault → Type 0
MeansOf program f h json budget (Ok r) = (xs : List Argument) × (bound_of h.parameters json ≡ Ok xs) × ReportTells program f h xs budget r
MeansOf program f h json budget (Err e) = e ≢ Memory → (b : BindFault) × (bound_of h.parameters json ≡ Err b) × (e ≡ run_fault b)

-- 50 where nothing is exported under the name
pub record Means (program : Program) (entry json : List ℕ) (budget : ℕ) (answer : Result Report RunFault) : Type 0 where
  pub none : ((f : ℕ) (h : TFunction) → IsExport program entry f h → ⊥) → answer ≡ Err NoEntry
  pub runs : (f : ℕ) (h : TFunction) → IsExport program entry f h → MeansOf program f h json budget answer
