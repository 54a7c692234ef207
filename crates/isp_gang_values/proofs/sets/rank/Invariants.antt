use Rattle.std.proofs.Common.{◌≡◌, ◌≤◌}
use Rattle.isp_base.specs.Cross.{rank}
use Rattle.isp_base.specs.Sets.{flag_of}
use Rattle.isp_gang_values.proofs.sets.rank.Given as goal

abbrev pub invariant-loop-lower : goal.invariant-loop-lower
invariant-loop-lower l = record { value : l.count ≡ rank (flag_of l.set) l.lower; low : l.count ≤ l.lower }
