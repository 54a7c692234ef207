use Rattle.std.proofs.Common.{◌≡◌, ◌++◌, map}
use Rattle.isp_wasm.specs.Locals.{row}
use Rattle.isp_wasm.specs.Places as places
use Rattle.isp_wasm_write.specs.Places.{place_of}
use Rattle.isp_wasm_write.proofs.locals.push_parts.Given as goal

abbrev pub invariant-loop-part : goal.invariant-loop-part
invariant-loop-part l = map place_of l.out.items ≡ map place_of l.initial.out.items ++ row l.part (places.Vector l.vector)
