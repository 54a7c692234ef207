use Rattle.std.proofs.Common.{◌≡◌, ◌≤◌, ◌+◌, ◌-◌, drop, length}
use Rattle.isp_positions.specs.Positions.{within}
use Rattle.isp_positions.proofs.offset.within.Given as goal

-- the units that are left end after what was gone past
abbrev pub invariant-loop-at : goal.invariant-loop-at
invariant-loop-at l = (l.at ≤ length l.rest) × (l.at + within l.left (drop l.at l.rest) ≡ within l.character l.rest)

abbrev pub decreases-loop-at : goal.decreases-loop-at
decreases-loop-at l = length l.rest - l.at
