use Rattle.isp_solo_laws.proofs.Whole.{expressions_agree}
use Rattle.isp_solo_laws.proofs.laws.expressions_agree.Goals as goal

pub returns : goal.returns
returns c = expressions_agree
