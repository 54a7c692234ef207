use Rattle.std.proofs.Common.{◌∷◌, [], ◌∙◌}
use Rattle.isp_lower.proofs.Lemmas.{landed}
use Rattle.isp_masks_code.specs.Loops.{if_needed, jump_all}
use Rattle.isp_masks_code.specs.Sets.{unite}
use Rattle.isp_masks.proofs.looping.join_widely.Goals as goal

pub returns : goal.returns
returns c =
    let a = c.args in
    landed a.b.now c.push.new.self c.join_where.new.b c.land.new.self c.len-at.result _ (jump_all a.full.number)
    (λ pc p. if_needed a.needed (unite a.to.number a.to.number a.from.number ∷ [])) []
    (c.len-at.ensures ∙ a.b.now.code.ok.0) c.in_ok-push.ensures c.in_ok-join_where.ensures (cc) c.land.ensures.places c.land.ensures.texts
