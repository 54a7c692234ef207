use Rattle.std.proofs.Common.{ap, ◌∙◌, ◌+◌, Bool}
use Rattle.std.specs.Prelude.{if◌then◌else◌}
use Rattle.isp_code.specs.Conf.{Go}
use Rattle.isp_code.specs.declared.instr.Instr.TheVariants as instr
use Rattle.isp_frames.specs.Views.{conf_of}
use Rattle.isp_frames.proofs.Shaping.{goes_to}
use Rattle.isp_machine.proofs.jumps.jump_if.Goals as goal

pub returns-then-jumps : goal.returns-then-jumps
returns-then-jumps g c = λ s opened.
    goes_to c.args.here.now s c.args.frame.now c.requires.shaped opened (instr.JumpIf c.args.test c.args.x c.args.to) c.args.to c.jump.new.self
    (λ ws out. ap (λ (b : Bool). Go (record (conf_of s c.args.frame.now ws out) { pc = if b then c.args.to else c.args.frame.now.pc + 1 })) (c.jumps.ensures s ws out ∙ c.if-jumps.true)) c.jump.ensures

pub returns : goal.returns
returns g c = λ s opened.
    goes_to c.args.here.now s c.args.frame.now c.requires.shaped opened (instr.JumpIf c.args.test c.args.x c.args.to) (c.args.frame.now.pc + 1) c.next.new.self
    (λ ws out. ap (λ (b : Bool). Go (record (conf_of s c.args.frame.now ws out) { pc = if b then c.args.to else c.args.frame.now.pc + 1 })) (c.jumps.ensures s ws out ∙ c.if-jumps.false)) c.next.ensures
