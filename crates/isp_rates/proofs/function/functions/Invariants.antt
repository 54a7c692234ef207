use Rattle.std.proofs.Common.{◌≡◌, drop}
use Rattle.isp_typed.specs.Verdicts.{first_of}
use Rattle.isp_typed.specs.Views.{functions_of}
use Rattle.isp_rates.specs.reader.Faults.{function_fault, of_each}
use Rattle.isp_rates.proofs.function.functions.Given as goal

abbrev pub invariant-loop-one : goal.invariant-loop-one
invariant-loop-one l = first_of l.seen (of_each (function_fault (functions_of l.functions)) (functions_of (drop l.one-index l.functions))) ≡ of_each (function_fault (functions_of l.functions)) (functions_of l.functions)
