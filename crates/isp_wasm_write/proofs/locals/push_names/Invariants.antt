use Rattle.std.proofs.Common.{◌≡◌, ◌++◌, map, take}
use Rattle.isp_wasm.specs.Locals.{name_of}
use Rattle.isp_wasm_write.specs.Places.{place_of}
use Rattle.isp_wasm_write.proofs.locals.push_names.Given as goal

abbrev pub invariant-loop-place : goal.invariant-loop-place
invariant-loop-place l = l.names.items ≡ l.initial.names.items ++ map name_of (map place_of (take l.place-index l.places))
