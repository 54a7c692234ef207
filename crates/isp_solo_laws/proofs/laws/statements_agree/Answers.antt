use Rattle.isp_solo_laws.proofs.Whole.{statements_agree}
use Rattle.isp_solo_laws.proofs.laws.statements_agree.Goals as goal

pub returns : goal.returns
returns c = statements_agree
