use Rattle.std.proofs.Common.{[], ◌∷◌, ◌∙◌}
use Rattle.isp_code.specs.declared.instr.JumpTest.TheVariants as jump
use Rattle.isp_lower_code.specs.Instructions.{jump_on}
use Rattle.isp_lower.proofs.Lemmas.{landed}
use Rattle.isp_masks_code.specs.Asserts.{fail}
use Rattle.isp_masks.proofs.asserting.fails_for_all.Goals as goal

pub returns : goal.returns
returns c =
    let a = c.args in
    landed a.b.now c.push.new.self c.add.new.self c.land.new.self c.len-at.result _ (jump_on jump.True a.tested.number) (λ pc p. fail a.site.mask.number a.place.number ∷ []) []
    (c.len-at.ensures ∙ a.b.now.code.ok.0) c.in_ok-push.ensures (rw c.fail.ensures at c.in_ok-add.ensures) (cc) c.land.ensures.places c.land.ensures.texts
