use Rattle.isp_steady.proofs.Rounding.{known_in_foreach}
use Rattle.isp_steady.proofs.bodies.known_in_foreach.Goals as goal

pub returns : goal.returns
returns c = known_in_foreach
