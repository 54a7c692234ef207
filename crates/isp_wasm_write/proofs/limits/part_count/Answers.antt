use Rattle.std.proofs.Common.{length, arith}
use Rattle.std.proofs.lemmas.List.{get_or_default}
use Rattle.isp_wasm.specs.Locals.{vector_places}
use Rattle.isp_wasm_write.proofs.Listed.{part_step}
use Rattle.isp_wasm_write.proofs.limits.part_count.Goals as goal

pub loop-elem-preserved : goal.loop-elem-preserved
loop-elem-preserved c =
    let i = c.loop-elem.elem-index in
    let ts = c.args.vectors.now in
    let same = c.from-count.ensures in
    let step = part_step c.args.lanes ts i c.loop-elem.count (length (vector_places c.args.lanes ts 0)) _ _ _ c.shape_of.ensures c.parts_for.ensures.is (omega arith) (get_or_default ts i _ _ (omega arith)) c.loop-elem.invariant.same in
    record { few = omega (arith, c.parts_for.ensures.few, same, c.loop-elem.invariant.few); same = omega (arith, step, same) }
