-- The exit status of each failure, and its line on standard error.
use Rattle.std.specs.Prelude.{ℕ, List, [], ◌∷◌, ◌++◌, Result, Ok, Err, ⊤, codes, string_bytes}
use Rattle.std.specs.Fmt.{decimal}
use Rattle.isp_base.specs.Traps.{trap_text}
use Rattle.isp_base.specs.Types.{span_text}
use Rattle.isp_lex.specs.Faults.{rule_text}
use Rattle.isp_lex.specs.declared.fault.Fault.{Fault}
use Rattle.isp_lex.specs.declared.fault.SourceFault.{SourceFault}
use Rattle.isp_lex.specs.declared.fault.SourceFault.TheVariants.{Memory as NoMemory, Refused}
use Rattle.isp_bind.specs.declared.fault.BindFault.{BindFault}
use Rattle.isp_entry.specs.declared.fault.EvalFault.{EvalFault}
use Rattle.isp_entry.specs.declared.fault.EvalFault.TheVariants as eval_fault
use Rattle.isp_verdicts.specs.Verdicts.{dependence_text}
use Rattle.isp_runs.specs.declared.fault.CodeFault.{CodeFault}
use Rattle.isp_runs.specs.declared.fault.CodeFault.TheVariants.{Memory as NoCodeMemory, Text as BadText, Code as BadCode}
use Rattle.isp_runs.specs.declared.fault.RunFault.{RunFault}
use Rattle.isp_runs.specs.declared.fault.RunFault.TheVariants.{Memory as NoRunMemory, NoEntry, Arguments, WriteFailed}
use Rattle.isp_runs.specs.CodeFaults.{code_fault_text}
use Rattle.isp_runs.specs.RunFaults.{run_fault, run_fault_text}
use Rattle.isp_engine.specs.declared.failure.Failure.{Failure}
use Rattle.isp_engine.specs.declared.failure.Failure.TheVariants.{Source, Trapped, BudgetUsed, TurnsUsed, Run, CannotRead, CannotWrite, Memory, Code, NotIndependent, NotApart}

abbrev pub status_of : Failure → ℕ
status_of (Source f) = 1
status_of (Trapped t) = 3
status_of BudgetUsed = 4
status_of (TurnsUsed p) = 4
status_of (Run f) = 5
status_of (CannotRead name) = 6
status_of CannotWrite = 6
status_of Memory = 7
status_of (Code f) = 8
status_of (NotIndependent d) = 9
status_of (NotApart name e) = 9

-- a rule and a place in the source: `30 VaryingToUniform at 34..46`
abbrev pub source_text : Fault → List ℕ
source_text f = rule_text f.rule ++ (codes " at " ++ span_text f.span)

-- an element of the parameter of this name
abbrev pub clash_text : List ℕ → ℕ → List ℕ
clash_text name e = codes "isp: not apart: " ++ (name ++ (codes " " ++ decimal e))

abbrev pub failure_text : Failure → List ℕ
failure_text (Source f) = codes "isp: " ++ source_text f
failure_text (Trapped t) = codes "isp: " ++ trap_text t
failure_text BudgetUsed = codes "isp: budget used"
failure_text (TurnsUsed p) = codes "isp: turns used, instance " ++ decimal p
failure_text (Run f) = codes "isp: " ++ run_fault_text f
failure_text (CannotRead name) = codes "isp: cannot read " ++ name.now
failure_text CannotWrite = codes "isp: cannot write"
failure_text Memory = codes "isp: memory"
failure_text (Code f) = codes "isp: " ++ code_fault_text f
failure_text (NotIndependent d) = codes "isp: " ++ dependence_text d
failure_text (NotApart name e) = clash_text (string_bytes name) e

abbrev pub failure_line : Failure → List ℕ
failure_line f = failure_text f ++ 10 ∷ []

abbrev pub clash_line : List ℕ → ℕ → List ℕ
clash_line name e = clash_text name e ++ 10 ∷ []

-- the line of how the program ends; none where it ends well
abbrev pub line_of : Result ⊤ Failure → List ℕ
line_of (Ok u) = []
line_of (Err f) = failure_line f

abbrev pub source_failure : SourceFault → Failure
source_failure NoMemory = Memory
source_failure (Refused f) = Source f

abbrev pub run_failure : RunFault → Failure
run_failure NoRunMemory = Memory
run_failure NoEntry = Run NoEntry
run_failure (Arguments f) = Run (Arguments f)
run_failure WriteFailed = CannotWrite

abbrev pub code_failure : CodeFault → Failure
code_failure NoCodeMemory = Memory
code_failure (BadText f) = Code (BadText f)
code_failure (BadCode f) = Code (BadCode f)

abbrev pub bind_failure : BindFault → Failure
bind_failure f = run_failure (run_fault f)

abbrev pub eval_failure : EvalFault → Failure
eval_failure eval_fault.Memory = Memory
eval_failure eval_fault.NoEntry = Run NoEntry
eval_failure (eval_fault.NotIndependent d) = NotIndependent d
