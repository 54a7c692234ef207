-- What every request tells of: the files that it reads, and the bytes that go out.
-- `holds name text` says that under a name a text may be found, or nothing that can be read.
use Rattle.std.specs.Prelude.{◌≡◌, ◌⊎◌, ℕ, List, [], Bool, Option, Some, None, Result, Ok, Err, ⊤}
use Rattle.isp_base.specs.declared.types.Gang.{Gang}
use Rattle.isp_engine.specs.declared.failure.Failure.{Failure}
use Rattle.isp_engine.specs.declared.failure.Failure.TheVariants.{Source, CannotRead, CannotWrite, Memory}
use Rattle.isp_front.specs.Front.{IsFaulty}
use Rattle.isp_output.specs.Sinks.{TookAll, TookSome}

abbrev pub Holds : Type 1
Holds = List ℕ → Option (List ℕ) → Type 0

-- ---- files

-- the texts of two files
pub record Reads (holds : Holds) (first second : List ℕ) : Type 0 where
  pub text : List ℕ
  pub json : List ℕ
  pub has_text : holds first (Some text)
  pub has_json : holds second (Some json)

-- why a file gives no text
abbrev pub Unread : Holds → List ℕ → Failure → Type 0
Unread holds file (CannotRead name) = (name.now ≡ file) × holds file None
Unread holds file Memory = Unit {0}
Unread holds file f = ⊥

-- the first of two files cannot be read, or the second where the first was read
abbrev pub UnreadOf : Holds → List ℕ → List ℕ → Failure → Type 0
UnreadOf holds first second f = Unread holds first f ⊎ (((text : List ℕ) × holds first (Some text)) × Unread holds second f)

-- ---- what went out

-- bytes went out whole, or the first of them until a write failed
abbrev pub Writes : List ℕ → Option (List ℕ) → Option (List ℕ) → Bool → Result ⊤ Failure → Type 0
Writes bytes old new failed (Ok u) = TookAll bytes old new failed
Writes bytes old new failed (Err CannotWrite) = TookSome bytes old new failed
Writes bytes old new failed (Err f) = ⊥

-- a failure before anything is written
abbrev pub Stops : (Failure → Type 0) → Option (List ℕ) → Option (List ℕ) → Bool → Result ⊤ Failure → Type 0
Stops fails old new failed (Ok u) = ⊥
Stops fails old new failed (Err f) = fails f × TookAll [] old new failed

-- ---- a source

-- the source of a name is not read, or is refused
abbrev pub SourceFails : Holds → Gang → List ℕ → Failure → Type 0
SourceFails holds gang source (CannotRead name) = Unread holds source (CannotRead name)
SourceFails holds gang source (Source f) = (text : List ℕ) × holds source (Some text) × IsFaulty gang text f
SourceFails holds gang source Memory = Unit {0}
SourceFails holds gang source f = ⊥
