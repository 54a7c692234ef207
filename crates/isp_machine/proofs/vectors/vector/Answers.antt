use Rattle.std.proofs.Common.{refl, ap, ◌∙◌, ◌+◌}
use Rattle.isp_frames.specs.Arrays.{vector_in}
use Rattle.isp_frames.specs.Rows.{FrameRows}
use Rattle.isp_frames.proofs.Shaping.{dest_vector, goes_vector}
use Rattle.isp_machine.proofs.Written.{vector_elem_is}
use Rattle.isp_machine.proofs.vectors.vector.Goals as goal

pub returns-clause-ok : goal.returns-clause-ok
returns-clause-ok g c =
    let h = c.args.here.now in
    let f = c.args.frame.now in
    let there = dest_vector h.code h.routine c.args.d c.args.instr c.requires.operands in
    let left = c.in_ok-vector_value.ensures.ok in
    goes_vector h c.args.stores.now f c.requires.works.shaped c.requires.works.arrays c.args.d c.args.instr (vector_in f c.args.d.number) left.value _ there refl
    (left.elem ∙ vector_elem_is h.routine f c.requires.works.shaped c.args.d there) left.written
    (c.next.ensures ∙ ap (λ (z : FrameRows). record z { pc = z.pc + 1 }) left.now)
