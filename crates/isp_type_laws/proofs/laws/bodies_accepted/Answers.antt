use Rattle.isp_type_laws.proofs.Through.{bodies_accepted}
use Rattle.isp_type_laws.proofs.laws.bodies_accepted.Goals as goal

pub returns : goal.returns
returns c = bodies_accepted
