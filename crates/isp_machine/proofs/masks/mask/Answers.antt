use Rattle.std.proofs.Common.{ap, ◌∙◌, ◌+◌}
use Rattle.isp_frames.specs.Rows.{FrameRows}
use Rattle.isp_frames.proofs.Shaping.{dest_mask, goes_mask}
use Rattle.isp_machine.proofs.masks.mask.Goals as goal

pub returns : goal.returns
returns g c = λ s o.
    goes_mask c.args.here.now s c.args.frame.now c.requires.shaped o c.args.d c.args.instr.now _ _
    (dest_mask c.args.here.now.code c.args.here.now.routine c.args.d c.args.instr.now c.requires.operands) c.mask_value-value.ensures
    (c.next.ensures ∙ ap (λ (f : FrameRows). record f { pc = f.pc + 1 }) c.set_mask.ensures)
