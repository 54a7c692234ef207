use Rattle.isp_registers.proofs.Growing.{both_given, then_given}
use Rattle.isp_registers.proofs.reserve.Reserve.update.Goals as goal

pub returns : goal.returns
returns c =
    rw (← c.beyond-next.ensures.number) (rw (← c.next-work.ensures.number) (
    then_given _ _ _ _ _ c.beyond-next.ensures.gives
    (both_given _ _ _ _ _ c.in_ok-target.ensures
    (both_given _ _ _ _ _ c.next-work.ensures.gives (both_given _ _ _ _ _ (rw c.ty.ensures at c.in_ok-operand.ensures) c.in_ok-change.ensures)))
    ))
