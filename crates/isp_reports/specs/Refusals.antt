-- Why a call ends with a status other than 0: the status, the line, and what is told by numbers.
use Rattle.std.specs.Prelude.{ℕ, List, [], ◌∷◌, ◌++◌, codes, string_bytes}
use Rattle.isp_asm.specs.declared.fault.Rule.{Rule as TextRule}
use Rattle.isp_asm.specs.declared.fault.Rule.TheVariants.{BadLine, BadOperand, BadLabel, NotCanonical}
use Rattle.isp_base.specs.declared.trap.Trap.{Trap}
use Rattle.isp_base.specs.declared.trap.TrapKind.{TrapKind}
use Rattle.isp_base.specs.declared.trap.TrapKind.TheVariants.{Divide, Index, Assert, Depth}
use Rattle.isp_base.specs.declared.types.Span.{Span}
use Rattle.isp_bind.specs.declared.fault.BindFault.TheVariants.{Missing, Extra, OutOfRange, TooLong}
use Rattle.isp_engine.specs.Failures as program
use Rattle.isp_engine.specs.declared.failure.Failure.{Failure}
use Rattle.isp_engine.specs.declared.failure.Failure.TheVariants as failure
use Rattle.isp_runs.specs.declared.fault.CodeFault.{CodeFault}
use Rattle.isp_runs.specs.declared.fault.CodeFault.TheVariants as code_fault
use Rattle.isp_runs.specs.declared.fault.RunFault.{RunFault}
use Rattle.isp_runs.specs.declared.fault.RunFault.TheVariants as run_fault
use Rattle.isp_lex.specs.Faults as source
use Rattle.isp_packed.specs.declared.fault.PackedFault.{PackedFault}
use Rattle.isp_packed.specs.declared.fault.PackedFault.TheVariants as packed
use Rattle.isp_verify.specs.FaultTexts as verify
use Rattle.isp_reports.specs.declared.refusal.Refusal.{Refusal}
use Rattle.isp_reports.specs.declared.refusal.Refusal.TheVariants.{NoGang, Failed, Arguments, NoModule, Short}
use Rattle.isp_reports.specs.declared.report.Why.{Why}

-- ---- the status

abbrev pub status_of : Refusal → ℕ
status_of NoGang = 2
status_of (Failed f) = program.status_of f
status_of (Arguments f) = 5
status_of (NoModule line) = 8
status_of Short = 10

-- ---- the line

-- how the same arguments are refused in JSON
abbrev pub in_json : PackedFault → Failure
in_json packed.Memory = failure.Memory
in_json (packed.Short p) = failure.Run (run_fault.Arguments Missing)
in_json packed.Long = failure.Run (run_fault.Arguments Extra)
in_json (packed.OutOfRange p e) = failure.Run (run_fault.Arguments OutOfRange)
in_json (packed.TooLong p) = failure.Run (run_fault.Arguments TooLong)

abbrev pub line_of : Refusal → List ℕ
line_of NoGang = codes "isp: no such gang" ++ 10 ∷ []
line_of (Failed f) = program.failure_line f
line_of (Arguments f) = program.failure_line (in_json f)
line_of (NoModule line) = string_bytes line
line_of Short = codes "isp: no room" ++ 10 ∷ []

-- ---- the numbers

abbrev pub nothing : Why
nothing = record { number = 0; trap = 0; begin = 0; end = 0; instance = 0; line = 0; function = 0; instruction = 0; parameter = 0; element = 0 }

abbrev pub numbered : ℕ → Why
numbered n = record nothing { number = n }

-- a number, and a place in the source
abbrev pub placed : ℕ → Span → Why
placed n s = record nothing { number = n; begin = s.start; end = s.end }

-- a number, and an element of a parameter
abbrev pub of_argument : ℕ → ℕ → ℕ → Why
of_argument n p e = record nothing { number = n; parameter = p; element = e }

abbrev pub number_of_kind : TrapKind → ℕ
number_of_kind Divide = 1
number_of_kind Index = 2
number_of_kind Assert = 3
number_of_kind Depth = 4

abbrev pub number_of_rule : TextRule → ℕ
number_of_rule BadLine = 60
number_of_rule BadOperand = 61
number_of_rule BadLabel = 62
number_of_rule NotCanonical = 63

abbrev pub why_of_trap : Trap → Why
why_of_trap t = record (placed 0 t.place) { trap = number_of_kind t.kind; instance = t.instance }

abbrev pub why_of_code : CodeFault → Why
why_of_code code_fault.Memory = nothing
why_of_code (code_fault.Text f) = record (numbered (number_of_rule f.rule)) { line = f.line }
why_of_code (code_fault.Code f) = record (numbered (verify.number_of f.rule)) { function = f.function; instruction = f.instruction }

abbrev pub why_of_run : RunFault → Why
why_of_run run_fault.NoEntry = numbered 50
why_of_run f = nothing

abbrev pub why_of_failure : Failure → Why
why_of_failure (failure.Source f) = placed (source.number_of f.rule) f.span
why_of_failure (failure.Trapped t) = why_of_trap t
why_of_failure (failure.Run f) = why_of_run f
why_of_failure (failure.Code f) = why_of_code f
why_of_failure f = nothing

abbrev pub why_of_arguments : PackedFault → Why
why_of_arguments packed.Memory = nothing
why_of_arguments (packed.Short p) = of_argument 72 p 0
why_of_arguments packed.Long = numbered 73
why_of_arguments (packed.OutOfRange p e) = of_argument 75 p e
why_of_arguments (packed.TooLong p) = of_argument 76 p 0

abbrev pub why_of : Refusal → Why
why_of NoGang = nothing
why_of (Failed f) = why_of_failure f
why_of (Arguments f) = why_of_arguments f
why_of (NoModule line) = nothing
why_of Short = nothing

-- no function is exported under the name
abbrev pub no_entry : Refusal
no_entry = Failed (failure.Run run_fault.NoEntry)

-- a refusal of bytes as one of the call
abbrev pub refusal_of : PackedFault → Refusal
refusal_of packed.Memory = Failed failure.Memory
refusal_of (packed.Short p) = Arguments (packed.Short p)
refusal_of packed.Long = Arguments packed.Long
refusal_of (packed.OutOfRange p e) = Arguments (packed.OutOfRange p e)
refusal_of (packed.TooLong p) = Arguments (packed.TooLong p)
