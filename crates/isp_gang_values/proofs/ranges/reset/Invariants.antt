use Rattle.std.proofs.Common.{◌≡◌, ◌-◌}
use Rattle.isp_gang_values.proofs.Left.{restarted_to}
use Rattle.isp_gang_values.proofs.ranges.reset.Given as goal

abbrev pub invariant-loop-place : goal.invariant-loop-place
invariant-loop-place l = l.ranges.items ≡ restarted_to l.from (l.place - l.from) l.initial.ranges.items
