use Rattle.std.proofs.Common.{◌≡◌, drop}
use Rattle.isp_gang_values.specs.Left.{all_go}
use Rattle.isp_gang_values.proofs.ranges.is_ready.Given as goal

abbrev pub invariant-loop-place : goal.invariant-loop-place
invariant-loop-place l = all_go l.ranges ≡ all_go (drop l.place l.ranges)
