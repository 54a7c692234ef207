-- What `run_as_meant` answers of a text, an entry and a JSON text of arguments.
--     Entered     an exported function of the program that the text is, and what the JSON text binds for it
--     IsReport    the report of how a machine stands after the budget, which runs the function as is meant
--     Answers     a report, or why there is none
use Rattle.std.specs.Prelude.{◌≡◌, ℕ, List, Result, Ok, Err}
use Rattle.isp_base.specs.Outcomes.{Outcome}
use Rattle.isp_base.specs.declared.signature.Argument.{Argument}
use Rattle.isp_base.specs.declared.types.Gang.{Gang}
use Rattle.isp_lex.specs.declared.fault.SourceFault.TheVariants.{Memory as NoMemory, Refused}
use Rattle.isp_typed.specs.Typed.{Program, TFunction}
use Rattle.isp_meaning.specs.Entries.{IsExport}
use Rattle.isp_bind.specs.Binding.{bound_of}
use Rattle.isp_bind.specs.declared.fault.BindFault.{BindFault}
use Rattle.isp_runs.specs.declared.fault.RunFault.TheVariants.{Memory, NoEntry, Arguments, WriteFailed}
use Rattle.isp_runs.specs.declared.report.Report.{Report}
use Rattle.isp_front.specs.Front.{IsFaulty, IsSource}
use Rattle.isp_runs.specs.Reports.{Reports}
use Rattle.isp_headline.specs.declared.calls.Refusal.{Refusal}
use Rattle.isp_headline.specs.declared.calls.Refusal.TheVariants.{Source, Run}
use Rattle.isp_headline.specs.Headline.{RunsAsMeant}

pub record Entered (gang : Gang) (text entry json : List ℕ) (bound : Result (List Argument) BindFault) : Type 0 where
  pub program : Program
  pub source : IsSource gang text program
  pub number : ℕ
  pub function : TFunction
  pub export : IsExport program entry number function
  pub binds : bound_of function.parameters json ≡ bound

pub record IsReport (gang : Gang) (text entry json : List ℕ) (budget : ℕ) (r : Report) : Type 0 where
  pub arguments : List Argument
  pub entered : Entered gang text entry json (Ok arguments)
  pub machine : ℕ → Outcome
  pub runs : RunsAsMeant entered.program entered.number entered.function arguments machine
  pub reports : Reports entered.function.parameters (machine budget) r

-- the text is a program, and exports no function of this name
abbrev pub HasNoEntry : Gang → List ℕ → List ℕ → Type 0
HasNoEntry gang text entry = (program : Program) × IsSource gang text program × ((f : ℕ) (h : TFunction) → IsExport program entry f h → ⊥)

abbrev pub Answers : Gang → List ℕ → List ℕ → List ℕ → ℕ → Result Report Refusal → Type 0
Answers gang text entry json budget (Ok r) = IsReport gang text entry json budget r
Answers gang text entry json budget (Err (Source NoMemory)) = Unit {0}
Answers gang text entry json budget (Err (Source (Refused f))) = IsFaulty gang text f
Answers gang text entry json budget (Err (Run Memory)) = Unit {0}
Answers gang text entry json budget (Err (Run NoEntry)) = HasNoEntry gang text entry
Answers gang text entry json budget (Err (Run (Arguments b))) = Entered gang text entry json (Err b)
Answers gang text entry json budget (Err (Run WriteFailed)) = ⊥

-- memory was refused
abbrev pub IsMemory : Refusal → Type 0
IsMemory (Source f) = f ≡ NoMemory
IsMemory (Run f) = f ≡ Memory
