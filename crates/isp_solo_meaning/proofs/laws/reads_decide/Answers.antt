use Rattle.isp_solo_meaning.proofs.Orders.{reads_decide}
use Rattle.isp_solo_meaning.proofs.laws.reads_decide.Goals as goal

pub returns : goal.returns
returns c = reads_decide
