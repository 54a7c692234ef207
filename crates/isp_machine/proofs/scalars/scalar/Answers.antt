use Rattle.std.proofs.Common.{ap, ◌∙◌, ◌+◌}
use Rattle.isp_frames.specs.Rows.{FrameRows}
use Rattle.isp_frames.proofs.Shaping.{dest_scalar, goes_scalar}
use Rattle.isp_machine.proofs.scalars.scalar.Goals as goal

pub returns-clause-ok : goal.returns-clause-ok
returns-clause-ok g c =
    goes_scalar c.args.here.now c.args.stores.now c.args.frame.now c.requires.works.shaped c.requires.works.arrays c.args.d c.args.instr c.in_ok-bits.bits _
    (dest_scalar c.args.here.now.code c.args.here.now.routine c.args.d c.args.instr c.requires.operands) c.in_ok-bits.ensures.fits
    c.in_ok-bits.ensures.value (c.next.ensures ∙ ap (λ (f : FrameRows). record f { pc = f.pc + 1 }) c.set_scalar.ensures)
