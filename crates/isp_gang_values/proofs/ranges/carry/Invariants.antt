use Rattle.std.proofs.Common.{◌≡◌, ◌≤◌, length, true}
use Rattle.isp_base.specs.Types.{gang_width}
use Rattle.isp_base.specs.declared.types.Gang.{Gang}
use Rattle.isp_gang_values.specs.Left.{runs_left}
use Rattle.isp_gang_values.proofs.Left.{within_from}
use Rattle.isp_gang_values.proofs.ranges.carry.Given as goal

abbrev pub invariant-loop-place : goal.invariant-loop-place
invariant-loop-place l =
    record {
      left : (gang : Gang) → runs_left (gang_width gang) l.ranges.items ≡ runs_left (gang_width gang) l.initial.ranges.items;
      within : within_from l.place l.ranges.items ≡ true;
      low : l.place ≤ length l.ranges.items;
    }

abbrev pub decreases-loop-place : goal.decreases-loop-place
decreases-loop-place l = l.place
