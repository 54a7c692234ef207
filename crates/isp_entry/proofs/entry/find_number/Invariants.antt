use Rattle.isp_entry.proofs.Beginners.{NoneBelow}
use Rattle.isp_entry.proofs.entry.find_number.Given as goal

abbrev pub invariant-loop-number : goal.invariant-loop-number
invariant-loop-number l = NoneBelow l.program l.entry l.bound.arguments.items l.number
