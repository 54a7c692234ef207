use Rattle.isp_solo_laws.proofs.Whole.{bodies_agree}
use Rattle.isp_solo_laws.proofs.laws.bodies_agree.Goals as goal

pub returns : goal.returns
returns c = bodies_agree
