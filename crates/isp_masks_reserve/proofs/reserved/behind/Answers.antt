use Rattle.isp_registers.proofs.Lemmas.{both_given}
use Rattle.isp_masks_reserve.proofs.reserved.behind.Goals as goal

pub returns-clause-gives : goal.returns-clause-gives
returns-clause-gives c = both_given _ _ _ _ _ (rw c.next-next.ensures.number at c.next-next.ensures.gives) c.mask.ensures
