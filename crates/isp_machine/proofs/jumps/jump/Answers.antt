use Rattle.std.proofs.Common.{refl}
use Rattle.isp_code.specs.declared.instr.Instr.TheVariants as instr
use Rattle.isp_frames.proofs.Shaping.{goes_to}
use Rattle.isp_machine.proofs.jumps.jump.Goals as goal

pub returns : goal.returns
returns g c = λ s opened. goes_to c.args.here.now s c.args.frame.now c.requires opened (instr.Jump c.args.to) c.args.to c.jump.new.self (λ ws out. refl) c.jump.ensures
