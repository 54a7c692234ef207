use Rattle.std.proofs.Common.{◌≡◌, ◌≤◌}
use Rattle.isp_base.specs.Cross.{rank}
use Rattle.isp_base.specs.Sets.{flag_of}
use Rattle.isp_frames.proofs.frame.flags_on.Given as goal

abbrev pub invariant-loop-lane : goal.invariant-loop-lane
invariant-loop-lane g l = (l.on ≡ rank (flag_of l.mask) l.lane) × (l.on ≤ l.lane)
