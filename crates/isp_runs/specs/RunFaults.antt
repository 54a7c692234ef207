-- What a run answers where its arguments are refused, and how a refusal is shown.
use Rattle.std.specs.Prelude.{ℕ, List, codes}
use Rattle.isp_bind.specs.Faults.{fault_text}
use Rattle.isp_bind.specs.declared.fault.BindFault.{BindFault}
use Rattle.isp_bind.specs.declared.fault.BindFault.TheVariants.{Memory as NoMemory, NotJson, NotObject, Missing, Extra, WrongKind, OutOfRange, TooLong}
use Rattle.isp_runs.specs.declared.fault.RunFault.{RunFault}
use Rattle.isp_runs.specs.declared.fault.RunFault.TheVariants.{Memory, NoEntry, Arguments, WriteFailed}

abbrev pub run_fault : BindFault → RunFault
run_fault NoMemory = Memory
run_fault NotJson = Arguments NotJson
run_fault NotObject = Arguments NotObject
run_fault Missing = Arguments Missing
run_fault Extra = Arguments Extra
run_fault WrongKind = Arguments WrongKind
run_fault OutOfRange = Arguments OutOfRange
run_fault TooLong = Arguments TooLong

abbrev pub run_fault_text : RunFault → List ℕ
run_fault_text Memory = codes "memory"
run_fault_text NoEntry = codes "50 NoEntry"
run_fault_text (Arguments f) = fault_text f
run_fault_text WriteFailed = codes "81 WriteFailed"
