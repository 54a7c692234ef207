use Rattle.std.proofs.Common.{◌≡◌, length}
use Rattle.isp_lower.proofs.apart.fillers.Given as goal

abbrev pub invariant-loop-at : goal.invariant-loop-at
invariant-loop-at l = length l.code.items ≡ l.at
