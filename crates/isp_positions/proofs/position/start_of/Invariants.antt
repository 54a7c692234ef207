use Rattle.std.proofs.Common.{◌≡◌, ◌≤◌, ◌<◌, ℕ, false, get_or}
use Rattle.isp_positions.specs.Positions.{line_ends}
use Rattle.isp_positions.proofs.position.start_of.Given as goal

-- no line ends from here up to the place
abbrev pub invariant-loop-start : goal.invariant-loop-start
invariant-loop-start l = (l.start ≤ l.at) × ((k : ℕ) → l.start ≤ k → k < l.at → get_or (line_ends l.text) k false ≡ false)

abbrev pub decreases-loop-start : goal.decreases-loop-start
decreases-loop-start l = l.start
