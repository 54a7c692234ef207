use Rattle.std.proofs.Common.{◌≡◌, length, take}
use Rattle.std.specs.List.{flat_map}
use Rattle.isp_packed.specs.Packing.{packed_array}
use Rattle.isp_packed.proofs.Writes.{Written}
use Rattle.isp_packed.proofs.answers.put_arrays.Given as goal

abbrev pub invariant-loop-array : goal.invariant-loop-array
invariant-loop-array l =
    (l.end ≡ length (flat_map packed_array (take l.array-index l.arrays))) × Written (flat_map packed_array (take l.array-index l.arrays)) l.initial.into l.into
