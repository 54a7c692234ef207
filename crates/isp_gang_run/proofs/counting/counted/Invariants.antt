use Rattle.std.proofs.Common.{◌≡◌, ◌≤◌, drop, length, map}
use Rattle.isp_base.specs.Types.{gang_width}
use Rattle.isp_meaning.specs.Rounds.{counted}
use Rattle.isp_gang_run.specs.Capped.{capped}
use Rattle.isp_gang_values.specs.Left.{range_seen}
use Rattle.isp_gang_run.proofs.counting.counted.Given as goal

abbrev pub invariant-loop-place : goal.invariant-loop-place
invariant-loop-place l =
    record {
      within : l.place ≤ length l.ranges;
      count : l.count ≡ capped (counted (gang_width l.gang) 1 (map range_seen (drop l.place l.ranges)));
    }

abbrev pub decreases-loop-place : goal.decreases-loop-place
decreases-loop-place l = l.place
