-- From source to bytes: what `isp_run` and `isp_native` do with the code text that `isp_compile` wrote.
--     Leaves         what stands after a call whose machine came to an outcome: arguments, output, report and status
--     FromSource     a machine came to it that does what the source means
--     FromSourceToC  the C file is that of code which does so
use Rattle.std.specs.Prelude.{◌≡◌, ◌⊎◌, ℕ, ◌<◌, ◌≤◌, List, length, take, None, Ok}
use Rattle.isp_base.specs.Outcomes.{Outcome, Ends, Traps, GoesOn, out_of}
use Rattle.isp_base.specs.Types.{gang_width}
use Rattle.isp_base.specs.declared.signature.Argument.{Argument}
use Rattle.isp_base.specs.declared.types.Gang.{Gang}
use Rattle.isp_typed.specs.Typed.{Program, TFunction}
use Rattle.isp_meaning.specs.Entries.{IsExport}
use Rattle.isp_packed.specs.Packing.{packed_answer}
use Rattle.isp_packed.specs.Unpacking.{unpacked_of}
use Rattle.isp_code.specs.Listing.{Listing}
use Rattle.isp_native.specs.Text.{IsCText}
use Rattle.isp_runs.specs.Compilation.{IsCompilation}
use Rattle.isp_front.specs.Front.{IsSource}
use Rattle.isp_engine.specs.declared.failure.Failure.TheVariants.{BudgetUsed, Memory, Trapped}
use Rattle.isp_headline.specs.Headline.{RunsAsMeant}
use Rattle.isp_c_laws.specs.Compiling.{Compiles}
use Rattle.isp_reports.specs.Reports.{Done, Refuses}
use Rattle.isp_reports.specs.Rooms.{fronted}
use Rattle.isp_c_laws.specs.Running.{Runs, returned_bits}
use Rattle.isp_c_laws.specs.Translating.{Translates}
use Rattle.isp_reports.specs.declared.refusal.Refusal.TheVariants.{Failed, Short}
use Rattle.isp_reports.specs.declared.report.Report.{Report}

-- the bytes of the arguments before and after, and what is said: an end or a trap leaves its arrays where the arguments stood
abbrev pub LeavesArguments : Outcome → List ℕ → List ℕ → Report → ℕ → Type 0
LeavesArguments (Ends arrays x out) old new r status = (new ≡ fronted (packed_answer arrays None) old) × Done (length out) (returned_bits x) r status
LeavesArguments (Traps t arrays out) old new r status = (new ≡ fronted (packed_answer arrays None) old) × Refuses (Failed (Trapped t)) (length out) r status
LeavesArguments (GoesOn out) old new r status = (new ≡ old) × Refuses (Failed BudgetUsed) (length out) r status

-- nothing is changed, and the report says why
abbrev pub LeavesAll : List ℕ → List ℕ → List ℕ → List ℕ → Type 0
LeavesAll old new room given = (new ≡ old) × (given ≡ room)

-- where there is room for the output it is given; else nothing is changed, and the report says how much is wanted
pub record Leaves (o : Outcome) (old new room given : List ℕ) (r : Report) (status : ℕ) : Type 0 where
  pub whole : length (out_of o) ≤ length room → (given ≡ fronted (out_of o) room) × LeavesArguments o old new r status
  pub short : length room < length (out_of o) → LeavesAll old new room given × Refuses Short (length (out_of o)) r status

-- A source is compiled for a gang, and the first bytes of the room, as many as the report says, are code text. Of the program that the
-- source is, an exported function is run from bytes that hold arguments of it. Then a machine runs the function as is meant (it ends and
-- traps exactly as the gang does, else goes on with the same output so far; and ends as the instances do one by one, where each stands
-- alone), and what stands there is what it has come to after the budget. Or memory was refused, and nothing is changed.
abbrev pub FromSource : Type 0
FromSource =
    (gang : Gang) (source room text : List ℕ) (first : Report)
    → Compiles (gang_width gang) source room text first 0
    → (program : Program) (entry : List ℕ) (f : ℕ) (h : TFunction) (old : List ℕ) (xs : List Argument)
    → IsSource gang source program
    → IsExport program entry f h
    → unpacked_of h.parameters old ≡ Ok xs
    → (budget : ℕ) (new output given : List ℕ) (r : Report) (status : ℕ)
    → Runs (take first.used text) entry budget old new output given r status
    → (LeavesAll old new output given × Refuses (Failed Memory) 0 r status)
    ⊎ ((machine : ℕ → Outcome) × RunsAsMeant program f h xs machine × Leaves (machine budget) old new output given r status)

-- the same with the file that `isp_native` wrote at the front of its room
abbrev pub FromSourceToC : Type 0
FromSourceToC =
    (gang : Gang) (source room text : List ℕ) (first : Report)
    → Compiles (gang_width gang) source room text first 0
    → (old new : List ℕ) (r : Report)
    → Translates (take first.used text) old new r 0
    → (code : Listing) × IsCompilation gang source code × IsCText code (take r.used new)
