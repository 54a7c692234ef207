use Rattle.std.proofs.Common.{◌≡◌, ◌+◌, ◌*◌, ◌≤◌, length, drop}
use Rattle.isp_wasm.specs.Locals.{vector_places}
use Rattle.isp_wasm_write.proofs.limits.part_count.Given as goal

-- the parts so far, and those of the other vectors
abbrev pub invariant-loop-elem : goal.invariant-loop-elem
invariant-loop-elem l =
    record { few : l.count ≤ 16 * l.elem-index; same : l.count + length (vector_places l.lanes (drop l.elem-index l.vectors) 0) ≡ length (vector_places l.lanes l.vectors 0) }
