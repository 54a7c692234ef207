use Rattle.std.proofs.Common.{false}
use Rattle.isp_base.specs.Sets.{everyone}
use Rattle.isp_gang_values.proofs.Made.{Made}
use Rattle.isp_gang_values.proofs.sets.everyone.Given as goal

abbrev pub invariant-loop-instance : goal.invariant-loop-instance
invariant-loop-instance l = Made false (everyone l.instance-end) l.set l.instance
