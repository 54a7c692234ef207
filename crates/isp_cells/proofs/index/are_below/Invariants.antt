use Rattle.std.proofs.Common.{ℕ, ◌<◌, ◌≤◌}
use Rattle.isp_base.specs.Maps.{lane_of}
use Rattle.isp_cells.proofs.index.are_below.Given as goal

abbrev pub invariant-loop-lane : goal.invariant-loop-lane
invariant-loop-lane g l = (p : ℕ) → p < l.lane → lane_of l.places p ≤ l.bits
