use Rattle.isp_registers.proofs.Growing.{both_given}
use Rattle.isp_registers.proofs.reserve.Reserve.assign.Goals as goal

pub returns : goal.returns
returns c =
    both_given _ _ _ _ _ c.in_ok-target.ensures
    (both_given _ _ _ _ _ (rw c.beyond-next.ensures.number at c.beyond-next.ensures.gives) (rw (c.ty.ensures, c.beyond-next.ensures.number) at c.in_ok-operand.ensures))
