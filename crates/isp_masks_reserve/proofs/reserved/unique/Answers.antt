use Rattle.isp_base.specs.declared.types.Rate.TheVariants.{Uniform}
use Rattle.isp_registers.proofs.Lemmas.{both_given}
use Rattle.isp_masks_reserve.proofs.Reserving.{variable_reserved}
use Rattle.isp_masks_reserve.proofs.reserved.unique.Goals as goal

pub returns-clause-number : goal.returns-clause-number
returns-clause-number c = rw c.next-one.ensures.number at c.own-parts.ensures.number

pub returns-clause-gives : goal.returns-clause-gives
returns-clause-gives c =
    let one = c.next-one.ensures.number in
    let second = c.next-second.ensures.number in
    let elem = c.ty-elem.ensures in
    let kept = c.spare.new.self in
    let index = variable_reserved kept Uniform c.args.it.index c.args.it.elem in
    both_given _ _ _ _ _ c.in_ok-operand.ensures
    (both_given _ _ _ _ _ (rw elem at c.in_ok-spare.ensures)
    (both_given _ _ _ _ _ index
    (both_given _ _ _ _ _ (rw one at c.next-one.ensures.gives)
    (both_given _ _ _ _ _
    (both_given _ _ _ _ _ (rw (elem, one) at c.in_ok-spare-2.ensures)
    (both_given _ _ _ _ _ (rw (elem, one) at c.in_ok-spare-3.ensures) (both_given _ _ _ _ _ (rw (second, one) at c.next-second.ensures.gives) (rw (second, one) at c.in_ok-spare-4.ensures))))
    (both_given _ _ _ _ _ c.mask.ensures (rw one at c.own-parts.ensures.gives))))))
