use Rattle.std.proofs.Common.{◌∙◌, ◌+◌, ap, drop, sym, subst, arith, length}
use Rattle.isp_typed.specs.Views.{ranges_of}
use Rattle.isp_lower_code.specs.Asks.{Number}
use Rattle.isp_lower_code.specs.Room.{HasNumbers}
use Rattle.isp_registers.specs.Reserved.{Gives}
use Rattle.isp_registers.proofs.Lemmas.{both_given, gives_none}
use Rattle.isp_masks_code.specs.Asks.{bounds_asks}
use Rattle.isp_masks_code.proofs.Lemmas.{numbers_more, ranges_end, ranges_more}
use Rattle.isp_masks_reserve.proofs.ranges_reserved.bounds.Goals as goal

pub bound-requires : goal.bound-requires
bound-requires c = (numbers_more bounds_asks c.args.all.now c.loop-x.x-index c.x-item.result c.loop-x-test.true c.x-item.is c.loop-x.at.number c.loop-x.invariant.2).0

pub next-second-requires : goal.next-second-requires
next-second-requires c = (numbers_more bounds_asks c.args.all.now c.loop-x.x-index c.x-item.result c.loop-x-test.true c.x-item.is c.loop-x.at.number c.loop-x.invariant.2).1.0

pub next-at-requires : goal.next-at-requires
next-at-requires c =
    let all = numbers_more bounds_asks c.args.all.now c.loop-x.x-index c.x-item.result c.loop-x-test.true c.x-item.is c.loop-x.at.number c.loop-x.invariant.2 in
    subst (λ m. HasNumbers (Number (m + 1))) (sym c.next-second.ensures.number) all.1.1.1.0

pub loop-x-preserved : goal.loop-x-preserved
loop-x-preserved c =
    let more = ranges_more c.args.all.now c.loop-x.x-index c.x-item.result c.loop-x-test.true c.x-item.is in
    let second = c.next-second.ensures.number in
    let next = c.next-at.ensures.number in
    let long = ap length more in
    let was = c.loop-x.invariant.1 in
    let all = numbers_more bounds_asks c.args.all.now c.loop-x.x-index c.x-item.result c.loop-x-test.true c.x-item.is c.loop-x.at.number c.loop-x.invariant.2 in
    let rest = ranges_of (drop (c.loop-x.x-index + 1) c.args.all.now) in (
      λ k g.
          c.loop-x.invariant.0 k
          (subst (λ zs. Gives c.loop-x.r k (bounds_asks zs c.loop-x.at.number)) (sym more)
          (both_given _ _ _ _ _ c.in_ok-bound.ensures
          (both_given _ _ _ _ _ (rw second at c.next-second.ensures.gives)
          (both_given _ _ _ _ _ (rw second at c.in_ok-bound-2.ensures)
          (both_given _ _ _ _ _ (rw (next, second) at c.next-at.ensures.gives) (rw (next, second) at g)))))),
      omega (arith, was, long, second, next),
      subst (λ m. HasNumbers (bounds_asks rest m)) (sym (next ∙ ap (λ m. m + 1) second)) all.1.1.1.1,
    )

pub returns-clause-gives : goal.returns-clause-gives
returns-clause-gives c =
    c.loop-x.invariant.0 c.loop-x.r
    (subst (λ zs. Gives c.loop-x.r c.loop-x.r (bounds_asks zs c.loop-x.at.number)) (sym (ranges_end c.args.all.now c.loop-x.x-index c.loop-x-test.false)) (gives_none c.loop-x.r))

pub returns-clause-number : goal.returns-clause-number
returns-clause-number c =
    let none = ap length (ranges_end c.args.all.now c.loop-x.x-index c.loop-x-test.false) in
    let all = c.loop-x.invariant.1 in
    omega (arith, all, none)
