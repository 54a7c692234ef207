-- What the program does for a request, and how it ends.
--     WroteCode    the story of `asm`, from its file to what went out; that of `solo` is in specs/Solos.antt, those of `check`, `run`
--                  and `exec`, which other programs have too, in isp_engine
--     Ends         the story of any request
--     Commands     all of that, the exit status, and the line on standard error
-- `holds` is that of isp_engine's specs/Stories.antt, and `tells line` that a line went to standard error.
use Rattle.std.specs.Prelude.{◌≡◌, ◌⊎◌, ℕ, List, [], Bool, Option, Some, Result, ⊤}
use Rattle.isp_code.specs.Listing.{Listing}
use Rattle.isp_engine.specs.declared.failure.Failure.{Failure}
use Rattle.isp_engine.specs.declared.failure.Failure.TheVariants.{Memory}
use Rattle.isp_command_line.specs.declared.words.Request.{Request}
use Rattle.isp_command_line.specs.declared.words.Request.TheVariants as request
use Rattle.isp_command_line.specs.declared.words.AsmRequest.{AsmRequest}
use Rattle.isp_engine.specs.Failures.{failure_line, line_of}
use Rattle.isp_output.specs.Sinks.{TookAll}
use Rattle.isp_runs.specs.Compilation.{IsCompilation}
use Rattle.isp_runs.specs.Loading.{IsLoaded}
use Rattle.isp_engine.specs.Checking.{WroteVerdicts}
use Rattle.isp_engine.specs.Commands.{RunEnds, exit_status, job_of_exec, job_of_run}
use Rattle.isp_commands.specs.Solos.{SoloEnds}
use Rattle.isp_engine.specs.Stories.{Holds, SourceFails, Stops, Writes}

-- ---- asm

-- the text that is loaded as the code that the source is compiled to
pub record Assembled (holds : Holds) (q : AsmRequest) (bytes : List ℕ) : Type 0 where
  pub text : List ℕ
  pub has_text : holds q.source.now (Some text)
  pub code : Listing
  pub compiles : IsCompilation q.gang text code
  pub loads : IsLoaded bytes code

abbrev pub WroteCode : Holds → AsmRequest → Option (List ℕ) → Option (List ℕ) → Bool → Result ⊤ Failure → Type 0
WroteCode holds q old new failed end = ((bytes : List ℕ) × Assembled holds q bytes × Writes bytes old new failed end) ⊎ Stops (SourceFails holds q.gang q.source.now) old new failed end

-- ---- the whole

abbrev pub Ends : Holds → Request → Option (List ℕ) → Option (List ℕ) → Bool → Result ⊤ Failure → Type 0
Ends holds (request.Run q) old new failed end = RunEnds holds (job_of_run q) old new failed end
Ends holds (request.Check q) old new failed end = WroteVerdicts holds q old new failed end
Ends holds (request.Solo q) old new failed end = SoloEnds holds q old new failed end
Ends holds (request.Asm q) old new failed end = WroteCode holds q old new failed end
Ends holds (request.Exec q) old new failed end = RunEnds holds (job_of_exec q) old new failed end

-- words that ask for nothing: of their text on standard error nothing is said; or memory was refused while they were read
abbrev pub Refused : (List ℕ → Type 0) → ℕ → Type 0
Refused tells status = (status ≡ 2) ⊎ ((status ≡ 7) × tells (failure_line Memory))

-- some request has its whole story, and its line was told
abbrev pub Answered : Holds → Option (List ℕ) → Option (List ℕ) → Bool → (List ℕ → Type 0) → ℕ → Type 0
Answered holds old new failed tells status =
    (q : Request) × (end : Result ⊤ Failure) × (status ≡ exit_status end) × Ends holds q old new failed end × tells (line_of end)

-- nothing went out and the words are refused, or some request was answered
abbrev pub Commands : Holds → Option (List ℕ) → Option (List ℕ) → Bool → (List ℕ → Type 0) → ℕ → Type 0
Commands holds old new failed tells status = (Refused tells status × TookAll [] old new failed) ⊎ Answered holds old new failed tells status
