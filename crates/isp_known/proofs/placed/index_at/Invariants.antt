use Rattle.std.proofs.Common.{◌≡◌, drop}
use Rattle.isp_known.specs.Placed.{index_at}
use Rattle.isp_known.proofs.placed.index_at.Given as goal

abbrev pub invariant-loop-i : goal.invariant-loop-i
invariant-loop-i l = index_at l.keyword (drop l.i l.tokens) ≡ index_at l.keyword l.tokens
