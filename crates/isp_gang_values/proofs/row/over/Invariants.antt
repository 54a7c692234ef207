use Rattle.isp_base.specs.Maps.{lane_of, over}
use Rattle.isp_gang_values.specs.Seen.{map_of}
use Rattle.isp_gang_values.proofs.Made.{Made}
use Rattle.isp_gang_values.proofs.row.over.Given as goal

abbrev pub invariant-loop-instance : goal.invariant-loop-instance
invariant-loop-instance l = Made 0 (over (map_of l.row) (lane_of l.old)) l.lanes l.instance
