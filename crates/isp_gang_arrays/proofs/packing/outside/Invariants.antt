use Rattle.std.proofs.Common.{false}
use Rattle.isp_base.specs.Sets.{flag_of}
use Rattle.isp_base.specs.Values.{number}
use Rattle.isp_base.specs.Cross.{packed_outside}
use Rattle.isp_gang_values.proofs.Made.{Made}
use Rattle.isp_gang_arrays.proofs.packing.outside.Given as goal

abbrev pub invariant-loop-instance : goal.invariant-loop-instance
invariant-loop-instance l = Made false (packed_outside l.count (number l.elem l.first) (flag_of l.set)) l.out l.instance
