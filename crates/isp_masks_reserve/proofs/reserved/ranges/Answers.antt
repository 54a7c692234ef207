use Rattle.isp_registers.proofs.Lemmas.{both_given}
use Rattle.isp_masks_reserve.proofs.reserved.ranges.Goals as goal

pub returns-clause-number : goal.returns-clause-number
returns-clause-number c = rw (c.in_ok-masks.ensures.number, c.in_ok-behind.ensures.number, c.in_ok-first.ensures.number) at c.own-parts.ensures.number

pub returns-clause-gives : goal.returns-clause-gives
returns-clause-gives c =
    let first = c.in_ok-first.ensures.number in
    let behind = c.in_ok-behind.ensures.number in
    let masks = c.in_ok-masks.ensures.number in
    both_given _ _ _ _ _ c.in_ok-first.ensures.gives
    (both_given _ _ _ _ _ (rw first at c.in_ok-behind.ensures.gives)
    (both_given _ _ _ _ _ (rw (behind, first) at c.in_ok-masks.ensures.gives) (rw (masks, behind, first) at c.own-parts.ensures.gives)))
