use Rattle.std.proofs.Common.{◌≡◌, None, replicate}
use Rattle.isp_independence.proofs.firsts.nothing.Given as goal

abbrev pub invariant-loop-next : goal.invariant-loop-next
invariant-loop-next l = l.found.items ≡ replicate l._next None
