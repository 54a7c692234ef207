use Rattle.std.proofs.Common.{◌≡◌, map, take}
use Rattle.isp_wasm.specs.Module.{type_of}
use Rattle.isp_wasm_write.specs.Places.{place_of}
use Rattle.isp_wasm_module.specs.reader.Typed.{typed}
use Rattle.isp_wasm_module.proofs.types.of_places.Given as goal

abbrev pub invariant-loop-place : goal.invariant-loop-place
invariant-loop-place l = map typed l.types.items ≡ map (type_of l.kernel.code l.kernel.routine) (map place_of (take l.place-index l.places))
