use Rattle.std.proofs.Common.{◌∷◌, [], ◌∙◌}
use Rattle.isp_code.specs.declared.instr.Instr.TheVariants as instr
use Rattle.isp_lower_code.specs.Instructions.{the_others}
use Rattle.isp_lower.proofs.Lemmas.{landed}
use Rattle.isp_masks_code.specs.Loops.{copy_mask, jump_all}
use Rattle.isp_masks.proofs.sets.set_apart_unless_all.Goals as goal

pub returns-clause-adds : goal.returns-clause-adds
returns-clause-adds c =
    let a = c.args in
    landed a.b.now c.push.new.self c.set_apart.new.b c.land.new.self c.len-at.result _ (jump_all a.to.number)
    (λ pc p. the_others a.others.number a.k.number a.to.number ∷ copy_mask a.k.number a.to.number ∷ instr.Jump 0 ∷ []) []
    (c.len-at.ensures ∙ a.b.now.code.ok.0) c.in_ok-push.ensures c.in_ok-room.ensures.adds (cc) c.land.ensures.places c.land.ensures.texts
