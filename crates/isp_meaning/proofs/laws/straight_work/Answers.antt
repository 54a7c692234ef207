use Rattle.isp_meaning.proofs.Straight.{straight_work}
use Rattle.isp_meaning.proofs.laws.straight_work.Goals as goal

pub returns : goal.returns
returns c = straight_work
