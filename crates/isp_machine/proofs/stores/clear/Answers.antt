use Rattle.std.proofs.Common.{ap, ◌∙◌, ◌+◌}
use Rattle.isp_frames.specs.Rows.{FrameRows}
use Rattle.isp_machine.proofs.Written.{goes_clear}
use Rattle.isp_machine.proofs.stores.clear.Goals as goal

pub returns : goal.returns
returns g c =
    goes_clear c.args.here.now c.args.stores.now c.args.frame.now c.requires.shaped c.requires.arrays c.args.a c.args.k c.requires.operands.0.0 _ _ _ c.clear.ensures.written
    (c.next.ensures ∙ ap (λ (z : FrameRows). record z { pc = z.pc + 1 }) c.clear.ensures.others)
