use Rattle.std.proofs.Common.{◌≡◌, ◌++◌, map, drop}
use Rattle.isp_wasm.specs.Locals.{vector_places}
use Rattle.isp_wasm_write.specs.Places.{place_of}
use Rattle.isp_wasm_write.proofs.locals.push_vectors.Given as goal

-- the places so far, and those of the other vectors
abbrev pub invariant-loop-number : goal.invariant-loop-number
invariant-loop-number l =
    map place_of l.out.items ++ vector_places l.lanes (drop l.number l.vectors) l.number ≡ map place_of l.initial.out.items ++ vector_places l.lanes l.vectors 0
