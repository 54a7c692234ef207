-- What of the texts of a request is what the request asks for; and a line that is written as a text.
use Rattle.std.proofs.Common.{◌≡◌, ◌≢◌, ℕ, List, Bool, true, Option, Some, None, Result, Ok, Err, refl, sym, inl, inr}
use Rattle.std.specs.Prelude.{⊤}
use Rattle.isp_base.specs.declared.types.Gang.{Gang}
use Rattle.isp_lex.specs.declared.fault.Fault.{Fault}
use Rattle.isp_lex.specs.declared.fault.SourceFault.{SourceFault}
use Rattle.isp_lex.specs.declared.fault.SourceFault.TheVariants.{Memory as NoMemory, Refused}
use Rattle.isp_engine.specs.declared.failure.Failure.{Failure}
use Rattle.isp_engine.specs.declared.failure.Failure.TheVariants.{Source, Trapped, BudgetUsed, TurnsUsed, Run, Code, CannotRead, CannotWrite, Memory, NotIndependent, NotApart}
use Rattle.isp_runs.specs.declared.fault.CodeFault.{CodeFault}
use Rattle.isp_runs.specs.declared.fault.CodeFault.TheVariants as code_fault
use Rattle.isp_engine.specs.Commands.{NotGiven, job_of_run}
use Rattle.isp_engine.specs.Failures.{code_failure, source_failure}
use Rattle.isp_front.specs.Front.{IsFaulty}
use Rattle.isp_runs.specs.Loading.{IsNotLoaded}
use Rattle.isp_engine.specs.Told.{Told}
use Rattle.isp_engine.specs.Stories.{Holds, Reads, UnreadOf, Writes}
use Rattle.isp_engine.proofs.Requests.{unread_first, unread_second}
use Rattle.isp_output.proofs.Written.{adds_nil}
use Rattle.isp_command_line.specs.declared.words.RunRequest.{RunRequest}
use Rattle.isp_code_commands.specs.Texts.{GivesNone}

-- ---- a text that gives no code

pub none_compiled : (gang : Gang) (text : List ℕ) (e : SourceFault) → ((f : Fault) → e ≡ Refused f → IsFaulty gang text f) → GivesNone (Some gang) text (source_failure e)
none_compiled gang text NoMemory h = tt
none_compiled gang text (Refused f) h = h f refl

pub none_loaded : (text : List ℕ) (e : CodeFault) → (e ≢ code_fault.Memory → IsNotLoaded text e) → GivesNone None text (code_failure e)
none_loaded text code_fault.Memory h = tt
none_loaded text (code_fault.Text f) h = h (λ e. let none : ⊥ = cc in none)
none_loaded text (code_fault.Code f) h = h (λ e. let none : ⊥ = cc in none)

-- ---- a run that is not

module _ (holds : Holds) (q : RunRequest) where
  pub not_given : (f : Failure) → UnreadOf holds q.source.now q.arguments.now f → NotGiven holds (job_of_run q) f
  not_given f h = elim h [ inl k ↦ unread_first holds (job_of_run q) f k | inr k ↦ unread_second holds (job_of_run q) k.0.0 k.0.1 f k.1 ]

  -- what the texts of its files are
  module _ (files : Reads holds q.source.now q.arguments.now) where
    pub not_compiled : (f : Failure) → GivesNone (Some q.gang) files.text f → NotGiven holds (job_of_run q) f
    not_compiled (Source f) h = (files, h)
    not_compiled Memory h = tt
    not_compiled (Trapped t) h = absurd h
    not_compiled BudgetUsed h = absurd h
    not_compiled (Run f) h = absurd h
    not_compiled (CannotRead name) h = absurd h
    not_compiled CannotWrite h = absurd h
    not_compiled (Code f) h = absurd h
    not_compiled (TurnsUsed p) h = absurd h
    not_compiled (NotIndependent d) h = absurd h
    not_compiled (NotApart n e) h = absurd h

-- ---- a line that is written as a text

pub writes_told : (line : List ℕ) (old new : Option (List ℕ)) (failed : Bool) (end : Result ⊤ Failure) → Writes line old new failed end → Told line old new failed
writes_told line old new failed (Ok u) h = inl h
writes_told line old new failed (Err CannotWrite) h = inr h
writes_told line old new failed (Err (Source f)) h = absurd h
writes_told line old new failed (Err (Trapped t)) h = absurd h
writes_told line old new failed (Err BudgetUsed) h = absurd h
writes_told line old new failed (Err (TurnsUsed p)) h = absurd h
writes_told line old new failed (Err (Run f)) h = absurd h
writes_told line old new failed (Err (CannotRead name)) h = absurd h
writes_told line old new failed (Err Memory) h = absurd h
writes_told line old new failed (Err (Code f)) h = absurd h
writes_told line old new failed (Err (NotIndependent d)) h = absurd h
writes_told line old new failed (Err (NotApart name e)) h = absurd h

-- nothing goes to a sink that has failed before
pub untold : (line : List ℕ) (old : Option (List ℕ)) (failed : Bool) → failed ≡ true → Told line old old failed
untold line old failed e = inr ((0, sym (adds_nil old)), e)
