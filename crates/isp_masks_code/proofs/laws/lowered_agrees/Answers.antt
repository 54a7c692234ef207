use Rattle.isp_masks_code.proofs.Lowers.{lowered_agrees}
use Rattle.isp_masks_code.proofs.laws.lowered_agrees.Goals as goal

pub returns : goal.returns
returns c = lowered_agrees
