use Rattle.std.proofs.Common.{◌≡◌, ◌++◌, ◌+◌, ◌-◌, map}
use Rattle.isp_wasm.specs.Locals.{array_places}
use Rattle.isp_wasm_write.specs.Places.{place_of}
use Rattle.isp_wasm_write.proofs.locals.push_arrays.Given as goal

-- the places so far, and those of the other arrays
abbrev pub invariant-loop-number : goal.invariant-loop-number
invariant-loop-number l =
    map place_of l.out.items ++ array_places (l.count - l.number) (l.first + l.number) ≡ map place_of l.initial.out.items ++ array_places l.count l.first
