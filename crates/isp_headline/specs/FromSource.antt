-- What becomes of a source by the commands: by `run`, and by `asm` and then `exec` of what it wrote.
--     EndsAsMeant    how a command ends that runs an entry, and what has gone out
--     ByRun          so ends `run` of a source
--     ByExec         so ends `exec` of what `asm` wrote of a source
use Rattle.std.specs.Prelude.{◌≡◌, ◌⊎◌, ℕ, List, [], Bool, Option, Some, Result, Ok, Err, ⊤}
use Rattle.isp_base.specs.Outcomes.{Outcome}
use Rattle.isp_base.specs.declared.signature.Argument.{Argument}
use Rattle.isp_base.specs.declared.signature.Parameter.{Parameter}
use Rattle.isp_base.specs.declared.types.Gang.{Gang}
use Rattle.isp_typed.specs.Typed.{Program, TFunction}
use Rattle.isp_meaning.specs.Entries.{IsExport}
use Rattle.isp_bind.specs.Binding.{bound_of}
use Rattle.isp_command_line.specs.declared.words.RunRequest.{RunRequest}
use Rattle.isp_command_line.specs.declared.words.AsmRequest.{AsmRequest}
use Rattle.isp_command_line.specs.declared.words.ExecRequest.{ExecRequest}
use Rattle.isp_engine.specs.declared.failure.Failure.{Failure}
use Rattle.isp_engine.specs.declared.failure.Failure.TheVariants.{Memory}
use Rattle.isp_runs.specs.declared.fault.RunFault.{RunFault}
use Rattle.isp_runs.specs.declared.report.Report.{Report}
use Rattle.isp_commands.specs.Commands.{WroteCode}
use Rattle.isp_engine.specs.Commands.{RunEnds, end_of, job_of_exec, job_of_run}
use Rattle.isp_front.specs.Front.{IsSource}
use Rattle.isp_output.specs.Sinks.{TookAll}
use Rattle.isp_engine.specs.Stories.{Holds}
use Rattle.isp_headline.specs.Headline.{RunsAsMeant, Sent}

-- the file of this name has the text, and nothing else may be found there
abbrev pub IsFile : Holds → List ℕ → List ℕ → Type 0
IsFile holds name text = (found : Option (List ℕ)) → holds name found → found ≡ Some text

-- the end, and what went out, of a run by a machine that stands so at each number of instructions
abbrev pub EndsBy : List Parameter → (ℕ → Outcome) → ℕ → Option (List ℕ) → Option (List ℕ) → Bool → Result ⊤ Failure → Type 0
EndsBy ps machine budget old new failed end = (answer : Result Report RunFault) × Sent ps machine budget old new failed answer × (end ≡ end_of answer)

-- such an end, by a machine that does as is meant; or memory was refused before the run
abbrev pub EndsAsMeant : Program → ℕ → TFunction → List Argument → ℕ → Option (List ℕ) → Option (List ℕ) → Bool → Result ⊤ Failure → Type 0
EndsAsMeant program f h xs budget old new failed end =
    ((end ≡ Err Memory) × TookAll [] old new failed)
    ⊎ ((machine : ℕ → Outcome) × RunsAsMeant program f h xs machine × EndsBy h.parameters machine budget old new failed end)

-- the text is this program, with this function under the name, whose arguments these are
pub record IsCall (gang : Gang) (text entry json : List ℕ) (program : Program) (f : ℕ) (h : TFunction) (xs : List Argument) : Type 0 where
  pub source : IsSource gang text program
  pub export : IsExport program entry f h
  pub binds : bound_of h.parameters json ≡ Ok xs

abbrev pub ByRun : Holds → Type 0
ByRun holds =
    (q : RunRequest) (text json : List ℕ)
    → IsFile holds q.source.now text
    → IsFile holds q.arguments.now json
    → (program : Program) (f : ℕ) (h : TFunction) (xs : List Argument)
    → IsCall q.gang text q.entry.now json program f h xs
    → (old new : Option (List ℕ)) (failed : Bool) (end : Result ⊤ Failure)
    → RunEnds holds (job_of_run q) old new failed end
    → EndsAsMeant program f h xs q.budget old new failed end

-- `asm` finds the files that `holds` tells of, and `exec` those of `later`
abbrev pub ByExec : Holds → Holds → Type 0
ByExec holds later =
    (a : AsmRequest) (text written : List ℕ) (cut : Bool)
    → IsFile holds a.source.now text
    → WroteCode holds a (Some []) (Some written) cut (Ok tt)
    → (q : ExecRequest) (json : List ℕ)
    → IsFile later q.code.now written
    → IsFile later q.arguments.now json
    → (program : Program) (f : ℕ) (h : TFunction) (xs : List Argument)
    → IsCall a.gang text q.entry.now json program f h xs
    → (old new : Option (List ℕ)) (failed : Bool) (end : Result ⊤ Failure)
    → RunEnds later (job_of_exec q) old new failed end
    → EndsAsMeant program f h xs q.budget old new failed end
