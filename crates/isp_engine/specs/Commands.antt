-- What a command does that runs an entry, and how it ends. Those that do something else say so in crates of their own.
--     Ran            an entry of an image was run
--     RunEnds        the story of such a command, from its files to what went out
--     exit_status    the status after an end
-- `holds` is that of specs/Stories.antt.
use Rattle.std.specs.Prelude.{◌≡◌, ◌≢◌, ◌⊎◌, ℕ, List, Bool, Option, Result, Ok, Err, ⊤}
use Rattle.isp_base.specs.declared.types.Gang.{Gang}
use Rattle.isp_code.specs.Listing.{Listing}
use Rattle.isp_engine.specs.declared.job.Job.{Job}
use Rattle.isp_engine.specs.declared.job.Origin.{Origin}
use Rattle.isp_engine.specs.declared.job.Origin.TheVariants.{Compiled, Loaded}
use Rattle.isp_engine.specs.declared.failure.Failure.{Failure}
use Rattle.isp_engine.specs.declared.failure.Failure.TheVariants.{Source, Trapped, BudgetUsed, Code, CannotRead, Memory}
use Rattle.isp_runs.specs.declared.fault.RunFault.{RunFault}
use Rattle.isp_runs.specs.declared.fault.RunFault.TheVariants.{WriteFailed}
use Rattle.isp_runs.specs.declared.report.Ending.{Ending}
use Rattle.isp_runs.specs.declared.report.Ending.TheVariants.{Ended, Trapped as Stopped, Running}
use Rattle.isp_runs.specs.declared.report.Report.{Report}
use Rattle.isp_command_line.specs.declared.words.RunRequest.{RunRequest}
use Rattle.isp_command_line.specs.declared.words.ExecRequest.{ExecRequest}
use Rattle.isp_engine.specs.Failures.{run_failure, status_of}
use Rattle.isp_runs.specs.Sending.{Sends}
use Rattle.isp_front.specs.Front.{IsFaulty}
use Rattle.isp_runs.specs.Compilation.{IsCompilation}
use Rattle.isp_runs.specs.Loading.{IsLoaded, IsNotLoaded}
use Rattle.isp_runs.specs.Meaning.{Means}
use Rattle.isp_runs.specs.Reports.{Executes}
use Rattle.isp_engine.specs.Stories.{Holds, Reads, Stops, UnreadOf}

-- ---- an entry of an image is run

-- what is answered, and what went out: as `run_to` promises
pub record RunsTo (code : Listing) (entry json : List ℕ) (budget : ℕ) (old new : Option (List ℕ)) (failed : Bool) (answer : Result Report RunFault) : Type 0 where
  pub machine : answer ≢ Err WriteFailed → Executes code entry json budget answer
  pub means : answer ≢ Err WriteFailed → (gang : Gang) (text : List ℕ) (compiled : IsCompilation gang text code) → Means compiled.program entry json budget answer
  pub sends : Sends code entry json budget old new failed answer

-- how the program ends after a run that stands so
abbrev pub end_of_ending : Ending → Result ⊤ Failure
end_of_ending Ended = Ok tt
end_of_ending (Stopped t) = Err (Trapped t)
end_of_ending Running = Err BudgetUsed

-- and after what a run answered
abbrev pub end_of : Result Report RunFault → Result ⊤ Failure
end_of (Ok r) = end_of_ending r.ending
end_of (Err f) = Err (run_failure f)

pub record Ran (code : Listing) (entry json : List ℕ) (budget : ℕ) (old new : Option (List ℕ)) (failed : Bool) (end : Result ⊤ Failure) : Type 0 where
  pub answer : Result Report RunFault
  pub runs : RunsTo code entry json budget old new failed answer
  pub ends : end ≡ end_of answer

-- ---- run and exec

-- the code that a text gives: what it is compiled to, or the code whose text it is
abbrev pub IsImage : Origin → List ℕ → Listing → Type 0
IsImage (Compiled gang) text code = IsCompilation gang text code
IsImage Loaded text code = IsLoaded text code

-- why it gives none
abbrev pub IsNoImage : Origin → List ℕ → Failure → Type 0
IsNoImage (Compiled gang) text (Source f) = IsFaulty gang text f
IsNoImage Loaded text (Code f) = IsNotLoaded text f
IsNoImage origin text f = ⊥

abbrev pub job_of_run : RunRequest → Job
job_of_run q = record { origin = Compiled q.gang; text = q.source; entry = q.entry; arguments = q.arguments; budget = q.budget }

abbrev pub job_of_exec : ExecRequest → Job
job_of_exec q = record { origin = Loaded; text = q.code; entry = q.entry; arguments = q.arguments; budget = q.budget }

-- the files are read, and the first of them gives code
pub record Given (holds : Holds) (job : Job) (code : Listing) (json : List ℕ) : Type 0 where
  pub files : Reads holds job.text.now job.arguments.now
  pub json_is : files.json ≡ json
  pub image : IsImage job.origin files.text code

-- no file, or no code
abbrev pub NotGiven : Holds → Job → Failure → Type 0
NotGiven holds job (CannotRead name) = UnreadOf holds job.text.now job.arguments.now (CannotRead name)
NotGiven holds job Memory = Unit {0}
NotGiven holds job f = (files : Reads holds job.text.now job.arguments.now) × IsNoImage job.origin files.text f

-- and the entry is run with the arguments
pub record Runs (holds : Holds) (job : Job) (old new : Option (List ℕ)) (failed : Bool) (end : Result ⊤ Failure) : Type 0 where
  pub code : Listing
  pub json : List ℕ
  pub given : Given holds job code json
  pub ran : Ran code job.entry.now json job.budget old new failed end

abbrev pub RunEnds : Holds → Job → Option (List ℕ) → Option (List ℕ) → Bool → Result ⊤ Failure → Type 0
RunEnds holds job old new failed end = Runs holds job old new failed end ⊎ Stops (NotGiven holds job) old new failed end

-- ---- the status

abbrev pub exit_status : Result ⊤ Failure → ℕ
exit_status (Ok u) = 0
exit_status (Err f) = status_of f
