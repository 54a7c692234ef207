-- What `solo` does: an entry of a source is run by each instance of a gang alone, and the answer goes out where all end apart.
use Rattle.std.specs.Prelude.{◌≡◌, ◌⊎◌, ◌++◌, ◌∷◌, [], ℕ, List, Bool, Option, Result, Ok, Err, ⊤, slice_get, string_bytes}
use Rattle.std.specs.Option.{option_map_or}
use Rattle.isp_base.specs.declared.signature.Argument.{Argument}
use Rattle.isp_base.specs.declared.signature.Parameter.{Parameter}
use Rattle.isp_bind.specs.Answering.{answer_text}
use Rattle.isp_bind.specs.Binding.{bound_of}
use Rattle.isp_bind.specs.declared.fault.BindFault.{BindFault}
use Rattle.isp_entry.specs.Entered.{Begins}
use Rattle.isp_independence.specs.Dependences.{IsFirst}
use Rattle.isp_independence.specs.Independent.{Depends}
use Rattle.isp_meaning.specs.Entries.{IsExport}
use Rattle.isp_solo.specs.Report.{IsSoloReport}
use Rattle.isp_solo.specs.declared.report.SoloReport.{SoloReport}
use Rattle.isp_solo.specs.declared.report.SoloReport.TheVariants as report
use Rattle.isp_typed.specs.Typed.{Program, TFunction}
use Rattle.isp_command_line.specs.declared.words.SoloRequest.{SoloRequest}
use Rattle.isp_engine.specs.declared.failure.Failure.{Failure}
use Rattle.isp_engine.specs.declared.failure.Failure.TheVariants.{Source, Trapped, TurnsUsed, Run, CannotRead, Memory, NotIndependent, NotApart}
use Rattle.isp_runs.specs.declared.fault.RunFault.TheVariants.{NoEntry, Arguments}
use Rattle.isp_front.specs.Front.{IsFaulty, IsSource}
use Rattle.isp_engine.specs.Stories.{Holds, Reads, Stops, UnreadOf, Writes}

-- the name of a parameter, by its place
abbrev pub name_at : List Parameter → ℕ → List ℕ
name_at ps k = option_map_or (λ (p : Parameter). p.name) (slice_get ps k) []

-- what is told of a report: the answer and a line feed where all end apart, else why there is none
abbrev pub Tells : List Parameter → SoloReport → Result (List ℕ) Failure → Type 0
Tells ps (report.Ended arrays result) (Ok bytes) = bytes ≡ answer_text ps arrays.items result ++ 10 ∷ []
Tells ps (report.Trapped t) (Err f) = f ≡ Trapped t
Tells ps (report.Cut p) (Err f) = f ≡ TurnsUsed p
Tells ps (report.Clash k e) (Err (NotApart name element)) = (string_bytes name ≡ name_at ps k) × (element ≡ e)
Tells ps r x = ⊥

-- an entry of a program, and what the text of its arguments binds
pub record Binds (program : Program) (entry json : List ℕ) (h : TFunction) (bound : Result (List Argument) BindFault) : Type 0 where
  pub number : ℕ
  pub export : IsExport program entry number h
  pub binds : bound_of h.parameters json ≡ bound

-- its instances come to a report one by one, with so many turns, of which this is told
pub record IsTold (program : Program) (entry json : List ℕ) (turns : ℕ) (x : Result (List ℕ) Failure) : Type 0 where
  pub function : TFunction
  pub bound : List Argument
  pub entered : Binds program entry json function (Ok bound)
  pub report : SoloReport
  pub reports : IsSoloReport program entry bound turns report
  pub tells : Tells function.parameters report x

-- why no report is told as an answer
abbrev pub IsUnanswered : Program → List ℕ → List ℕ → ℕ → Failure → Type 0
IsUnanswered program entry json turns Memory = Unit {0}
IsUnanswered program entry json turns (Run NoEntry) = (number : ℕ) (h : TFunction) → IsExport program entry number h → ⊥
IsUnanswered program entry json turns (Run (Arguments b)) = (h : TFunction) × Binds program entry json h (Err b)
IsUnanswered program entry json turns (NotIndependent d) =
    (h : TFunction) × (bound : List Argument) × Binds program entry json h (Ok bound) × ((f : ℕ) × Begins program entry bound f × IsFirst d (Depends program f))
IsUnanswered program entry json turns f = IsTold program entry json turns (Err f)

-- ---- the files

-- the files are read, and the first is the source of a program
pub record Sourced (holds : Holds) (q : SoloRequest) (json : List ℕ) (program : Program) : Type 0 where
  pub files : Reads holds q.source.now q.arguments.now
  pub json_is : files.json ≡ json
  pub is : IsSource q.gang files.text program

pub record Soloed (holds : Holds) (q : SoloRequest) (bytes : List ℕ) : Type 0 where
  pub program : Program
  pub json : List ℕ
  pub given : Sourced holds q json program
  pub told : IsTold program q.entry.now json q.turns (Ok bytes)

abbrev pub SoloFails : Holds → SoloRequest → Failure → Type 0
SoloFails holds q (CannotRead name) = UnreadOf holds q.source.now q.arguments.now (CannotRead name)
SoloFails holds q (Source f) = (files : Reads holds q.source.now q.arguments.now) × IsFaulty q.gang files.text f
SoloFails holds q Memory = Unit {0}
SoloFails holds q f = (program : Program) × (json : List ℕ) × Sourced holds q json program × IsUnanswered program q.entry.now json q.turns f

abbrev pub SoloEnds : Holds → SoloRequest → Option (List ℕ) → Option (List ℕ) → Bool → Result ⊤ Failure → Type 0
SoloEnds holds q old new failed end = ((bytes : List ℕ) × Soloed holds q bytes × Writes bytes old new failed end) ⊎ Stops (SoloFails holds q) old new failed end
