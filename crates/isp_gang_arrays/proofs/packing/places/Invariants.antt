use Rattle.std.proofs.Common.{None}
use Rattle.isp_base.specs.Sets.{flag_of}
use Rattle.isp_base.specs.Values.{number}
use Rattle.isp_gang_values.proofs.Made.{Made}
use Rattle.isp_gang_arrays.specs.Packing.{places_at}
use Rattle.isp_gang_arrays.proofs.packing.places.Given as goal

abbrev pub invariant-loop-instance : goal.invariant-loop-instance
invariant-loop-instance l = Made None (places_at l.count (number l.elem l.first) (flag_of l.set)) l.row l.instance
