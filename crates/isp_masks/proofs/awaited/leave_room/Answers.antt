use Rattle.std.proofs.Common.{[], ◌∷◌, ◌++◌, ap, ◌∙◌, subst}
use Rattle.isp_code.specs.declared.instr.Instr.TheVariants as instr
use Rattle.isp_code.specs.declared.instr.JumpTest.TheVariants as jump
use Rattle.isp_lower.specs.Emitted.{Appends}
use Rattle.isp_masks.proofs.Awaiting.{awaits_room}
use Rattle.isp_masks.proofs.awaited.leave_room.Goals as goal

pub returns-in_ok-push-2 : goal.returns-in_ok-push-2
returns-in_ok-push-2 c = λ o d s u x.
    rw (c.if-left.true)
    (awaits_room o c.args.b.now c.push-then-left.new.self c.args.jumps.now.items c.push.new.self.items c.args.k.number d s u x
    (c.in_ok-push.ensures.items ∙ ap (λ m. c.args.jumps.now.items ++ m ∷ []) (c.len.ensures ∙ c.args.b.now.code.ok.0))
    (subst (λ i. Appends c.args.b.now c.push-then-left.new.self (λ pc n. i ∷ []) []) (ap (λ r. instr.JumpIf jump.Off r 0) c.mask.ensures) c.in_ok-push-2.ensures))
