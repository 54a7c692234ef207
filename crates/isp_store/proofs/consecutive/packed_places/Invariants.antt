use Rattle.std.proofs.Common.{◌≡◌, ◌≤◌, length, None}
use Rattle.isp_base.specs.Cross.{packed_index, packed_outside, rank}
use Rattle.isp_base.specs.Sets.{flag_of, lowest}
use Rattle.isp_base.specs.Values.{number}
use Rattle.isp_base.specs.declared.types.Elem.TheVariants.{I64}
use Rattle.isp_store.proofs.PlacesInOrder.{Placed}
use Rattle.isp_store.proofs.consecutive.packed_places.Given as goal

abbrev pub invariant-loop-lane : goal.invariant-loop-lane
invariant-loop-lane g l =
    (lowest l.lane (packed_outside l.count (number I64 l.index) (flag_of l.mask)) ≡ None)
    × Placed l.count (packed_index (number I64 l.index) (flag_of l.mask)) (flag_of l.mask) l.places l.lane × (length l.places ≡ g.row.N)
    × (l.lower ≡ rank (flag_of l.mask) l.lane) × (l.lower ≤ l.lane)
