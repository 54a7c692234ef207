use Rattle.isp_registers.proofs.Lemmas.{both_given}
use Rattle.isp_masks_reserve.proofs.reserved.behind_two.Goals as goal

pub returns-clause-gives : goal.returns-clause-gives
returns-clause-gives c = both_given _ _ _ _ _ c.behind-next.ensures.gives (rw c.behind-next.ensures.number at c.behind-last.ensures.gives)
