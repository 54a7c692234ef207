-- What `ispx check` does of a source: where it has faults a page of messages goes out, one for each, and it fails with the first; else a
-- page goes out of its exported functions and of what is slow, and it ends well.
--     TellsFaults     how it ends where these are all faults
--     TellsNotes      how it ends of a text without a fault
--     ChecksText      of any text
--     CheckAnswered   of a request, with the exit status
-- `holds name text` says that under a name a text may be found, or nothing that can be read.
use Rattle.std.specs.Prelude.{◌≡◌, ◌≢◌, ◌⊎◌, ℕ, List, [], Bool, Option, Some, Result, Ok, Err, ⊤, slice_get}
use Rattle.isp_lex.specs.declared.fault.Fault.{Fault}
use Rattle.isp_check_command.specs.Notes.{IsNotes}
use Rattle.isp_check_command.specs.Pages.{FaultMessage, PageOf}
use Rattle.isp_engine.specs.Commands.{exit_status}
use Rattle.isp_engine.specs.Stories.{Holds, Stops, Unread, Writes}
use Rattle.isp_engine.specs.declared.failure.Failure.{Failure}
use Rattle.isp_engine.specs.declared.failure.Failure.TheVariants.{Source, CannotWrite, Memory}
use Rattle.isp_faults.specs.Faults.{AreFaults}
use Rattle.isp_output.specs.Sinks.{TookAll, TookSome}
use Rattle.ispx_command_line.specs.declared.words.CheckRequest.{CheckRequest}

-- ---- faults

abbrev pub FaultPage : CheckRequest → List ℕ → List Fault → List ℕ → Type 0
FaultPage q text xs page = PageOf (FaultMessage q text) xs page

-- a page goes out; or memory was refused for it, and nothing does
abbrev pub TellsPage : CheckRequest → List ℕ → List Fault → Option (List ℕ) → Option (List ℕ) → Bool → Result ⊤ Failure → Type 0
TellsPage q text xs old new failed end =
    ((page : List ℕ) × FaultPage q text xs page × Writes page old new failed end) ⊎ Stops (λ f. f ≡ Memory) old new failed end

-- of no fault nothing goes out, and it ends well; of faults a page does, or the first of it until a write failed, and nothing where memory was
-- refused
abbrev pub TellsFaults : CheckRequest → List ℕ → List Fault → Option (List ℕ) → Option (List ℕ) → Bool → Result ⊤ Failure → Type 0
TellsFaults q text xs old new failed (Ok u) = (xs ≡ []) × TookAll [] old new failed
TellsFaults q text xs old new failed (Err (Source f)) = (slice_get xs 0 ≡ Some f) × ((page : List ℕ) × FaultPage q text xs page × TookAll page old new failed)
TellsFaults q text xs old new failed (Err CannotWrite) = (xs ≢ []) × ((page : List ℕ) × FaultPage q text xs page × TookSome page old new failed)
TellsFaults q text xs old new failed (Err Memory) = (xs ≢ []) × TookAll [] old new failed
TellsFaults q text xs old new failed (Err f) = ⊥

-- ---- a text without a fault

-- nothing goes out, and it ends well
abbrev pub TellsNothing : Option (List ℕ) → Option (List ℕ) → Bool → Result ⊤ Failure → Type 0
TellsNothing old new failed (Ok u) = TookAll [] old new failed
TellsNothing old new failed (Err f) = ⊥

-- of a page that is not empty
abbrev pub TellsSome : List ℕ → Option (List ℕ) → Option (List ℕ) → Bool → Result ⊤ Failure → Type 0
TellsSome page old new failed end = ((page ≡ []) × TellsNothing old new failed end) ⊎ ((page ≢ []) × Writes page old new failed end)

-- all notes of a text are told, or memory was refused for them
abbrev pub TellsNotes : CheckRequest → List ℕ → Option (List ℕ) → Option (List ℕ) → Bool → Result ⊤ Failure → Type 0
TellsNotes q text old new failed end = ((page : List ℕ) × IsNotes q text page × TellsSome page old new failed end) ⊎ Stops (λ f. f ≡ Memory) old new failed end

-- ---- any text

-- where these are all faults of a text: there are some, or its notes are told
abbrev pub Tells : CheckRequest → List ℕ → List Fault → Option (List ℕ) → Option (List ℕ) → Bool → Result ⊤ Failure → Type 0
Tells q text xs old new failed end = ((xs ≡ []) × TellsNotes q text old new failed end) ⊎ ((xs ≢ []) × TellsFaults q text xs old new failed end)

-- the faults of a text are told, or memory was refused before they were found
abbrev pub ChecksText : CheckRequest → List ℕ → Option (List ℕ) → Option (List ℕ) → Bool → Result ⊤ Failure → Type 0
ChecksText q text old new failed end =
    ((xs : List Fault) × AreFaults q.gang text xs × Tells q text xs old new failed end) ⊎ Stops (λ f. f ≡ Memory) old new failed end

-- of the text of a file, or it is not read
abbrev pub CheckEnds : Holds → CheckRequest → Option (List ℕ) → Option (List ℕ) → Bool → Result ⊤ Failure → Type 0
CheckEnds holds q old new failed end =
    ((text : List ℕ) × holds q.source.now (Some text) × ChecksText q text old new failed end) ⊎ Stops (Unread holds q.source.now) old new failed end

abbrev pub CheckAnswered : Holds → CheckRequest → Option (List ℕ) → Option (List ℕ) → Bool → ℕ → Type 0
CheckAnswered holds q old new failed status = (end : Result ⊤ Failure) × (status ≡ exit_status end) × CheckEnds holds q old new failed end
