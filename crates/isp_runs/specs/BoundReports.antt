-- What a run of bound arguments is reported as.
--     Leaves code rs s r             the report says how the state s stands, which began with the arrays rs
--     RunsBound code entry xs b r    what the report says of the machine: after b instructions, or fewer where memory stopped it
--     MeansBound program entry xs b r    and of the meaning of the program
use Rattle.std.specs.Prelude.{◌≡◌, ℕ, ◌<◌, List, Option, None}
use Rattle.isp_base.specs.Arguments.{rows, rows_now}
use Rattle.isp_base.specs.Outcomes.{Outcome, Ends, Traps, GoesOn}
use Rattle.isp_base.specs.Rows.{Row}
use Rattle.isp_base.specs.declared.signature.Argument.{Argument}
use Rattle.isp_code.specs.Conf.{State, Runs, Trapped as AtTrap}
use Rattle.isp_code.specs.Entries as machine
use Rattle.isp_code.specs.Listing.{Listing, Routine}
use Rattle.isp_code.specs.Machine.{after, first_conf}
use Rattle.isp_machine.specs.Runs.{IsRunning, IsTrapped, IsEnded, conf, result_of}
use Rattle.isp_machine.specs.declared.stop.StartFault.{StartFault}
use Rattle.isp_machine.specs.declared.stop.StartFault.TheVariants.{Memory as NoMemory, NoEntry}
use Rattle.isp_machine.specs.declared.stop.Stop.{Stop}
use Rattle.isp_machine.specs.declared.stop.Stop.TheVariants.{Running, Trapped, Ended, Memory}
use Rattle.isp_meaning.specs.Entries as meaning
use Rattle.isp_typed.specs.Typed.{Program, TFunction}
use Rattle.isp_outside.specs.Asked.{outside_of}
use Rattle.isp_outside.specs.declared.outside.Outside.{Outside}
use Rattle.isp_runs.specs.Meaning.{Tells}
use Rattle.isp_runs.specs.declared.report.BoundReport.{BoundReport}

-- how many instructions of a budget were made: fewer where memory was refused
abbrev pub Counts : Stop → ℕ → ℕ → Type 0
Counts Memory budget m = m < budget
Counts Running budget m = m ≡ budget
Counts Ended budget m = m ≡ budget
Counts (Trapped t) budget m = m ≡ budget

-- where memory was refused the machine could go on
abbrev pub StandsAs : Stop → State → Type 0
StandsAs Memory s = IsRunning s
StandsAs Running s = IsRunning s
StandsAs Ended s = IsEnded s
StandsAs (Trapped t) s = IsTrapped t s

-- the element at which an access trapped
abbrev pub outside_at : Listing → State → Option Outside
outside_at code (AtTrap t c) = outside_of code c t.instance
outside_at code s = None

pub record Leaves (code : Listing) (rs : List Row) (s : State) (r : BoundReport) : Type 0 where
  pub stop : StandsAs r.stop s
  pub arrays : r.arrays.items ≡ rows_now rs (conf s).arrays
  pub output : r.output.items ≡ (conf s).out
  pub result : r.result ≡ result_of s
  pub outside : r.outside ≡ outside_at code s

-- ---- by the machine

pub record RunsBound (code : Listing) (entry : List ℕ) (xs : List Argument) (budget : ℕ) (r : BoundReport) : Type 0 where
  pub function : ℕ
  pub routine : Routine
  pub is_entry : machine.IsEntry code entry xs function routine
  pub count : ℕ
  pub counts : Counts r.stop budget count
  pub leaves : Leaves code (rows xs) (after code count (Runs (first_conf code function routine xs))) r

-- 50 exactly where no exported function has the name and takes the arguments
abbrev pub RefusesBound : Listing → List ℕ → List Argument → StartFault → Type 0
RefusesBound code entry xs NoEntry = (f : ℕ) (g : Routine) → machine.IsEntry code entry xs f g → ⊥
RefusesBound code entry xs NoMemory = (f : ℕ) × (g : Routine) × machine.IsEntry code entry xs f g

-- ---- by the meaning

-- an outcome as it is reported; one that goes on has no arrays
abbrev pub IsCut : Stop → Type 0
IsCut Memory = Unit {0}
IsCut Running = Unit {0}
IsCut Ended = ⊥
IsCut (Trapped t) = ⊥

abbrev pub Shows : Outcome → BoundReport → Type 0
Shows (Ends arrays x out) r = (r.stop ≡ Ended) × (r.arrays.items ≡ arrays) × (r.result ≡ x) × (r.output.items ≡ out)
Shows (Traps t arrays out) r = (r.stop ≡ Trapped t) × (r.arrays.items ≡ arrays) × (r.result ≡ None) × (r.output.items ≡ out)
Shows (GoesOn out) r = IsCut r.stop × (r.result ≡ None) × (r.output.items ≡ out)

abbrev pub BoundTells : Program → ℕ → TFunction → List Argument → ℕ → BoundReport → Type 0
BoundTells program f h xs budget r = Tells program f h xs budget (λ o. Shows o r) (IsCut r.stop → ⊥) r.output.items

pub record MeansBound (program : Program) (entry : List ℕ) (xs : List Argument) (budget : ℕ) (r : BoundReport) : Type 0 where
  pub function : ℕ
  pub typed : TFunction
  pub is_entry : meaning.IsEntry program entry xs function typed
  pub count : ℕ
  pub counts : Counts r.stop budget count
  pub tells : BoundTells program function typed xs count r

abbrev pub NotMeant : Program → List ℕ → List Argument → StartFault → Type 0
NotMeant program entry xs NoEntry = (f : ℕ) (h : TFunction) → meaning.IsEntry program entry xs f h → ⊥
NotMeant program entry xs NoMemory = (f : ℕ) × (h : TFunction) × meaning.IsEntry program entry xs f h
