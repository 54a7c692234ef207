use Rattle.isp_registers.proofs.Lemmas.{both_given}
use Rattle.isp_masks_reserve.proofs.reserved.asserted.Goals as goal

pub returns : goal.returns
returns c = rw (← c.ty.ensures) (both_given _ _ _ _ _ c.in_ok-expr.ensures c.test.ensures)
