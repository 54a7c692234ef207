use Rattle.std.proofs.Common.{◌∙◌, ap, length}
use Rattle.std.specs.Prelude.{slice_set}
use Rattle.isp_code.specs.declared.instr.Instr.TheVariants as instr
use Rattle.isp_code.specs.declared.instr.JumpTest.TheVariants as jump
use Rattle.isp_lower_code.specs.Instructions.{jump_off}
use Rattle.isp_lower_code.specs.Layout.{mask_register}
use Rattle.isp_registers.specs.declared.numbered.MaskNumber.{MaskNumber}
use Rattle.isp_lower.proofs.Lemmas.{landed}
use Rattle.isp_masks.specs.Written.{step_in, stepped_at, test_in}
use Rattle.isp_masks.proofs.steps.some_stepped.Goals as goal

pub returns : goal.returns
returns c =
    let a = c.args in
    let part = stepped_at a.on.now (test_in a.by) (step_in a.by) a.slot.number a.top in
    let after = c.stepped.new.b.code.items in
    let code = ap (λ r. slice_set after c.len-at.result (instr.JumpIf jump.Off r (length after))) (c.mask-4.ensures ∙ ap (λ (k : MaskNumber). mask_register k.number) c.mask-3.ensures) in
    landed a.b.now c.push.new.self c.stepped.new.b c.land.new.self c.len-at.result _ (jump_off a.slot.number) part.code part.places
    (c.len-at.ensures ∙ a.b.now.code.ok.0) c.in_ok-push.ensures c.in_ok-stepped.ensures (c.land.ensures.code ∙ code) c.land.ensures.places c.land.ensures.texts
