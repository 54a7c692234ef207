use Rattle.std.proofs.Common.{false}
use Rattle.isp_base.specs.Sets.{flag_of, union}
use Rattle.isp_gang_values.proofs.Made.{Made}
use Rattle.isp_gang_values.proofs.sets.union.Given as goal

abbrev pub invariant-loop-instance : goal.invariant-loop-instance
invariant-loop-instance l = Made false (union (flag_of l.first) (flag_of l.second)) l.set l.instance
