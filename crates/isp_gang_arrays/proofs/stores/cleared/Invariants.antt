use Rattle.isp_base.specs.Maps.{lane_of}
use Rattle.isp_base.specs.Sets.{flag_of}
use Rattle.isp_gang_values.proofs.Made.{Made}
use Rattle.isp_gang_arrays.specs.Stores.{with_zeros}
use Rattle.isp_gang_arrays.proofs.stores.cleared.Given as goal

abbrev pub invariant-loop-instance : goal.invariant-loop-instance
invariant-loop-instance l = Made 0 (with_zeros (flag_of l.set) (lane_of l.lanes)) l.cleared l.instance
