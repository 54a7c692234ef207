use Rattle.std.proofs.Common.{None, unsigned_abs}
use Rattle.isp_base.specs.Cross.{packed_index}
use Rattle.isp_base.specs.Maps.{on}
use Rattle.isp_base.specs.Sets.{flag_of}
use Rattle.isp_base.specs.Values.{number}
use Rattle.isp_gang_values.proofs.Made.{Made}
use Rattle.isp_gang_arrays.specs.Stores.{stores_of}
use Rattle.isp_gang_arrays.proofs.packing.held.Given as goal

abbrev pub invariant-loop-instance : goal.invariant-loop-instance
invariant-loop-instance l = Made None (on (flag_of l.set) (λ p. stores_of l.stores l.store (unsigned_abs (packed_index (number l.elem l.first) (flag_of l.set) p)))) l.row l.instance
