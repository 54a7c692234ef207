use Rattle.std.proofs.Common.{◌≡◌, None}
use Rattle.isp_base.specs.Sets.{flag_of, lowest}
use Rattle.isp_gang_values.proofs.sets.lowest.Given as goal

abbrev pub invariant-loop-instance : goal.invariant-loop-instance
invariant-loop-instance l = lowest l.instance (flag_of l.set) ≡ None
