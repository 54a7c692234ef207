use Rattle.std.proofs.Common.{◌≡◌, ◌+◌, length, take}
use Rattle.std.specs.List.{flat_map}
use Rattle.isp_packed.specs.Packing.{packed_array, packed_result}
use Rattle.isp_packed.proofs.answers.wanted.Given as goal

abbrev pub invariant-loop-array : goal.invariant-loop-array
invariant-loop-array l = l.wanted ≡ length (flat_map packed_array (take l.array-index l.arrays)) + length (packed_result l.fn.returned)
