use Rattle.std.proofs.Common.{None}
use Rattle.isp_base.specs.Maps.{lane_of, on}
use Rattle.isp_base.specs.Sets.{flag_of}
use Rattle.isp_gang_values.proofs.Made.{Made}
use Rattle.isp_gang_values.proofs.row.on.Given as goal

abbrev pub invariant-loop-instance : goal.invariant-loop-instance
invariant-loop-instance l = Made None (on (flag_of l.set) (lane_of l.lanes)) l.row l.instance
