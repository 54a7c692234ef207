use Rattle.std.proofs.Common.{◌≡◌, ◌++◌, ◌+◌, map}
use Rattle.isp_wasm.specs.Locals.{row}
use Rattle.isp_wasm.specs.Places as places
use Rattle.isp_wasm_write.specs.Places.{place_of}
use Rattle.isp_wasm_write.proofs.locals.push_scalars.Given as goal

abbrev pub invariant-loop-number : goal.invariant-loop-number
invariant-loop-number l = map place_of l.out.items ≡ map place_of l.initial.out.items ++ row l.number (λ r. places.Scalar (l.first + r))
