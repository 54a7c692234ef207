use Rattle.isp_registers.proofs.Lemmas.{both_given}
use Rattle.isp_masks_reserve.proofs.ranges_reserved.measures.Goals as goal

pub returns-clause-gives : goal.returns-clause-gives
returns-clause-gives c =
    let second = c.next-second.ensures.number in
    both_given _ _ _ _ _ c.in_ok-spare.ensures
    (both_given _ _ _ _ _ c.in_ok-spare-2.ensures
    (both_given _ _ _ _ _ c.in_ok-spare-3.ensures
    (both_given _ _ _ _ _ (rw second at c.next-second.ensures.gives)
    (both_given _ _ _ _ _ (rw second at c.in_ok-spare-4.ensures)
    (both_given _ _ _ _ _ (rw second at c.in_ok-spare-5.ensures)
    (both_given _ _ _ _ _ (rw second at c.in_ok-spare-6.ensures) (rw (c.next-behind.ensures.number, second) at c.next-behind.ensures.gives)))))))
