use Rattle.isp_registers.proofs.Growing.{both_given}
use Rattle.isp_registers.proofs.reserve.Reserve.one.Goals as goal

pub returns : goal.returns
returns c = both_given _ _ _ _ _ c.in_ok-spare.ensures c.in_ok-lift.ensures
