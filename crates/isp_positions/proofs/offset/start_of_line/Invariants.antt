use Rattle.std.proofs.Common.{◌≡◌, ◌≤◌, ◌+◌, ◌-◌, drop, length}
use Rattle.isp_positions.specs.Positions.{line_ends, start_of_line}
use Rattle.isp_positions.proofs.offset.start_of_line.Given as goal

-- the lines that are left begin after what was gone past
abbrev pub invariant-loop-left : goal.invariant-loop-left
invariant-loop-left l = (l.at ≤ length l.text) × (l.at + start_of_line l.left (drop l.at (line_ends l.text)) ≡ start_of_line l.line (line_ends l.text))

abbrev pub decreases-loop-left : goal.decreases-loop-left
decreases-loop-left l = length l.text - l.at
