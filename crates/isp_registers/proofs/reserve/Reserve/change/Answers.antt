use Rattle.isp_registers.proofs.Growing.{both_given}
use Rattle.isp_registers.proofs.reserve.Reserve.change.Goals as goal

pub returns : goal.returns
returns c = both_given _ _ _ _ _ (rw c.ty.ensures at c.in_ok-work.ensures) c.in_ok-element.ensures
