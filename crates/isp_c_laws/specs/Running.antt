-- What isp_run does.
use Rattle.std.specs.Prelude.{◌≡◌, ◌≢◌, ◌⊎◌, ℕ, ◌<◌, ◌≤◌, ◌%◌, ◌^◌, List, length, codes, Option, None, Some, Result, Ok, Err, IsUtf8}
use Rattle.isp_base.specs.Values.{width}
use Rattle.isp_base.specs.declared.signature.Argument.{Argument}
use Rattle.isp_base.specs.declared.types.Gang.{Gang}
use Rattle.isp_base.specs.declared.types.Value.{Value}
use Rattle.isp_code.specs.Entries.{IsEntry, IsExport, parameters_of}
use Rattle.isp_code.specs.Listing.{Listing, Routine}
use Rattle.isp_runs.specs.BoundReports.{MeansBound, RunsBound}
use Rattle.isp_runs.specs.Compilation.{IsCompilation}
use Rattle.isp_runs.specs.Loading.{IsLoaded, IsNotLoaded}
use Rattle.isp_engine.specs.declared.failure.Failure.TheVariants.{BudgetUsed, CannotRead, Code, Memory, Run, Trapped}
use Rattle.isp_runs.specs.declared.fault.RunFault.TheVariants.{NoEntry}
use Rattle.isp_runs.specs.declared.report.BoundReport.{BoundReport}
use Rattle.isp_machine.specs.declared.stop.Stop.{Stop}
use Rattle.isp_machine.specs.declared.stop.Stop.TheVariants as stop
use Rattle.isp_packed.specs.Packing.{packed_answer}
use Rattle.isp_packed.specs.Unpacking.{unpacked_of}
use Rattle.isp_packed.specs.declared.fault.PackedFault.{PackedFault}
use Rattle.isp_reports.specs.Reports.{Done, Refuses}
use Rattle.isp_reports.specs.Rooms.{fronted}
use Rattle.isp_reports.specs.declared.refusal.Refusal.{Refusal}
use Rattle.isp_reports.specs.declared.refusal.Refusal.TheVariants.{Arguments, Failed, Short}
use Rattle.isp_reports.specs.declared.report.Report.{Report}

-- ---- the run

-- an exported function of some code, and the arguments that bytes hold for it, or why they hold none
pub record Takes (code entry packed : List ℕ) (found : Result (List Argument) PackedFault) : Type 0 where
  pub listing : Listing
  pub loaded : IsLoaded code listing
  pub function : ℕ
  pub routine : Routine
  pub export : IsExport listing entry function routine
  pub unpacked : unpacked_of (parameters_of routine) packed ≡ found

-- the run from these arguments, by the machine and by the meaning of each source that the code is a compilation of
pub record RunOf (code entry packed : List ℕ) (budget : ℕ) (ran : BoundReport) : Type 0 where
  pub arguments : List Argument
  pub takes : Takes code entry packed (Ok arguments)
  pub machine : RunsBound takes.listing entry arguments budget ran
  pub means : (gang : Gang) (source : List ℕ) (compiled : IsCompilation gang source takes.listing) → MeansBound compiled.program entry arguments budget ran

-- the same of code that was loaded
abbrev pub Binds : Listing → List ℕ → List ℕ → List Argument → Type 0
Binds c entry packed xs = (f : ℕ) × (g : Routine) × IsEntry c entry xs f g × (unpacked_of (parameters_of g) packed ≡ Ok xs)

-- why bytes hold no arguments for a function of code that was loaded
abbrev pub NoBound : Listing → List ℕ → List ℕ → Refusal → Type 0
NoBound c entry packed (Failed (Run NoEntry)) = (f : ℕ) (g : Routine) → IsExport c entry f g → ⊥
NoBound c entry packed (Failed Memory) = Unit {0}
NoBound c entry packed (Arguments f) = (k : ℕ) × (g : Routine) × IsExport c entry k g × (unpacked_of (parameters_of g) packed ≡ Err f)
NoBound c entry packed f = ⊥

-- why a text is that of no code
abbrev pub NoLoad : List ℕ → Refusal → Type 0
NoLoad text (Failed (Code f)) = IsNotLoaded text f
NoLoad text (Failed Memory) = Unit {0}
NoLoad text f = ⊥

-- why bytes give no code: they are no text, or one of no code
abbrev pub NoCode : List ℕ → Refusal → Type 0
NoCode code (Failed (CannotRead name)) = (name.now ≡ codes "code") × (IsUtf8 code → ⊥)
NoCode code f = NoLoad code f

-- no function of the code is exported under the name
abbrev pub HasNoEntry : List ℕ → List ℕ → Type 0
HasNoEntry code entry = (c : Listing) × IsLoaded code c × ((f : ℕ) (g : Routine) → IsExport c entry f g → ⊥)

-- why there is no run
abbrev pub NoRun : List ℕ → List ℕ → List ℕ → Refusal → Type 0
NoRun code entry packed (Failed (CannotRead name)) = (name.now ≡ codes "code") × (IsUtf8 code → ⊥)
NoRun code entry packed (Failed (Code f)) = IsNotLoaded code f
NoRun code entry packed (Failed (Run NoEntry)) = (IsUtf8 entry → ⊥) ⊎ HasNoEntry code entry
NoRun code entry packed (Failed Memory) = Unit {0}
NoRun code entry packed (Arguments f) = Takes code entry packed (Err f)
NoRun code entry packed f = ⊥

-- ---- what is given

-- the arrays of a run where its arguments stood
abbrev pub answered : BoundReport → List ℕ → List ℕ
answered ran packed = fronted (packed_answer ran.arrays.items None) packed

-- the bits of what a run returned, zero above the width
abbrev pub returned_bits : Option Value → ℕ
returned_bits None = 0
returned_bits (Some v) = v.bits % 2 ^ width v.elem

-- how a run that stopped so changes the arguments, and what it says
abbrev pub Stops : Stop → BoundReport → List ℕ → List ℕ → Report → ℕ → Type 0
Stops stop.Ended ran old new r status = (new ≡ answered ran old) × Done (length ran.output.items) (returned_bits ran.result) r status
Stops (stop.Trapped t) ran old new r status = (new ≡ answered ran old) × Refuses (Failed (Trapped t)) (length ran.output.items) r status
Stops stop.Running ran old new r status = (new ≡ old) × Refuses (Failed BudgetUsed) (length ran.output.items) r status
Stops stop.Memory ran old new r status = ⊥

-- the arguments before and after a run, the room for its output, and what is said; where memory is refused or the room is too
-- small, both stay
pub record Delivers (ran : BoundReport) (old new room given : List ℕ) (r : Report) (status : ℕ) : Type 0 where
  pub memory : ran.stop ≡ stop.Memory → (new ≡ old) × (given ≡ room) × Refuses (Failed Memory) 0 r status
  pub short : ran.stop ≢ stop.Memory → length room < length ran.output.items → (new ≡ old) × (given ≡ room) × Refuses Short (length ran.output.items) r status
  pub whole : ran.stop ≢ stop.Memory → length ran.output.items ≤ length room → (given ≡ fronted ran.output.items room) × Stops ran.stop ran old new r status

-- ---- the call

abbrev pub Ran : List ℕ → List ℕ → List ℕ → ℕ → Result BoundReport Refusal → Type 0
Ran code entry packed budget (Ok ran) = RunOf code entry packed budget ran
Ran code entry packed budget (Err f) = NoRun code entry packed f

abbrev pub Tells : List ℕ → List ℕ → List ℕ → List ℕ → Report → ℕ → Result BoundReport Refusal → Type 0
Tells old new room given r status (Ok ran) = Delivers ran old new room given r status
Tells old new room given r status (Err f) = (new ≡ old) × (given ≡ room) × Refuses f 0 r status

abbrev pub Runs : List ℕ → List ℕ → ℕ → List ℕ → List ℕ → List ℕ → List ℕ → Report → ℕ → Type 0
Runs code entry budget old new room given r status =
    (answer : Result BoundReport Refusal) × Ran code entry old budget answer × Tells old new room given r status answer
