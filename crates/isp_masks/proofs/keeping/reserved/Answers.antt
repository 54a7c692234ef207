use Rattle.std.proofs.Common.{sym, subst}
use Rattle.isp_lower_code.specs.Room.{HasNumbers}
use Rattle.isp_registers.specs.Reserved.{Gives}
use Rattle.isp_registers.proofs.Lemmas.{both_given, gives_none}
use Rattle.isp_masks_code.specs.Keeping.{constants_asks}
use Rattle.isp_masks.proofs.ConstantRows.{left_none, left_one, some_constant}
use Rattle.isp_masks.proofs.keeping.reserved.Goals as goal

pub mask-requires : goal.mask-requires
mask-requires c = (subst (λ zs. HasNumbers (constants_asks c.args.slot.number zs)) (left_one c.args.all.now c.loop-x.x-index some_constant c.loop-x-test.true) c.loop-x.invariant.1).0

pub loop-x-preserved : goal.loop-x-preserved
loop-x-preserved c =
    let xs = c.args.all.now in
    let i = c.loop-x.x-index in
    let n = c.args.slot.number in (
      λ k g.
          c.loop-x.invariant.0 k
          (subst (λ zs. Gives c.loop-x.r k (constants_asks n zs)) (sym (left_one xs i _ c.loop-x-test.true)) (both_given _ _ _ _ _ c.mask.ensures (both_given _ _ _ _ _ c.in_ok-spare.ensures g))),
      (subst (λ zs. HasNumbers (constants_asks n zs)) (left_one xs i some_constant c.loop-x-test.true) c.loop-x.invariant.1).1.1,
    )

pub returns : goal.returns
returns c =
    c.loop-x.invariant.0 c.loop-x.r
    (subst (λ zs. Gives c.loop-x.r c.loop-x.r (constants_asks c.args.slot.number zs)) (sym (left_none c.args.all.now c.loop-x.x-index c.loop-x-test.false)) (gives_none c.loop-x.r))
