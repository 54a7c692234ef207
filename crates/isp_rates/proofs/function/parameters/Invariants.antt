use Rattle.std.proofs.Common.{◌≡◌, length, drop}
use Rattle.isp_typed.specs.Verdicts.{first_of}
use Rattle.isp_rates.specs.reader.Faults.{parameters_fault}
use Rattle.isp_rates.proofs.function.parameters.Given as goal

abbrev pub invariant-loop-name : goal.invariant-loop-name
invariant-loop-name l = first_of l.seen (parameters_fault (drop (length l.yielded) l.names) (drop (length l.yielded) l.variables)) ≡ parameters_fault l.names l.variables
