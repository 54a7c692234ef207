use Rattle.isp_steady.proofs.Bodily.{known_in_bodies}
use Rattle.isp_steady.proofs.bodies.known_in_bodies.Goals as goal

pub returns : goal.returns
returns c = known_in_bodies
