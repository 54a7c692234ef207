use Rattle.std.proofs.Common.{◌+◌, drop, sym, subst}
use Rattle.isp_base.specs.declared.types.Ty.{Ty}
use Rattle.isp_typed.specs.Views.{expr_of}
use Rattle.isp_lower_code.specs.Asks.{operand_asks}
use Rattle.isp_lower_code.specs.Room.{HasNumbers}
use Rattle.isp_registers.specs.Reserved.{Gives}
use Rattle.isp_registers.proofs.Lemmas.{both_given, gives_none}
use Rattle.isp_masks_code.proofs.Lemmas.{asked, asked_end, asked_more}
use Rattle.isp_masks_reserve.proofs.reserved.printed.Goals as goal

pub next-next-requires : goal.next-next-requires
next-next-requires c = (subst HasNumbers (asked_more c.args.all.now c.loop-x.x-index c.loop-x.at.number c.x-item.result c.loop-x-test.true c.x-item.is) c.loop-x.invariant.1).0

pub operand-requires : goal.operand-requires
operand-requires c =
    let more = asked_more c.args.all.now c.loop-x.x-index c.loop-x.at.number c.x-item.result c.loop-x-test.true c.x-item.is in
    subst (λ (t : Ty). HasNumbers (operand_asks t.rate (expr_of c.x-item.result) c.loop-x.at.number)) (sym c.ty.ensures) (subst HasNumbers more c.loop-x.invariant.1).1.0

pub loop-x-preserved : goal.loop-x-preserved
loop-x-preserved c =
    let xs = c.args.all.now in
    let i = c.loop-x.x-index in
    let next = c.next-next.ensures.number in
    let more = asked_more xs i c.loop-x.at.number c.x-item.result c.loop-x-test.true c.x-item.is in (
      λ k g.
          c.loop-x.invariant.0 k
          (subst (λ a. Gives c.loop-x.r k a) (sym more)
          (both_given _ _ _ _ _ (rw next at c.next-next.ensures.gives) (both_given _ _ _ _ _ (rw c.ty.ensures at c.in_ok-operand.ensures) (subst (λ m. Gives c.operand.new.self k (asked (drop (i + 1) xs) m)) next g)))),
      subst (λ m. HasNumbers (asked (drop (i + 1) xs) m)) (sym next) (subst HasNumbers more c.loop-x.invariant.1).1.1,
    )

pub returns : goal.returns
returns c =
    c.loop-x.invariant.0 c.loop-x.r
    (subst (λ a. Gives c.loop-x.r c.loop-x.r a) (sym (asked_end c.args.all.now c.loop-x.x-index c.loop-x.at.number c.loop-x-test.false)) (gives_none c.loop-x.r))
