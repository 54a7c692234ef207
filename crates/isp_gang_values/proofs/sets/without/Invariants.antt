use Rattle.std.proofs.Common.{false}
use Rattle.isp_base.specs.Sets.{flag_of, without}
use Rattle.isp_gang_values.proofs.Made.{Made}
use Rattle.isp_gang_values.proofs.sets.without.Given as goal

abbrev pub invariant-loop-instance : goal.invariant-loop-instance
invariant-loop-instance l = Made false (without (flag_of l.first) (flag_of l.second)) l.set l.instance
