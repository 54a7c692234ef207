use Rattle.isp_solo_laws.proofs.Whole.{acts_agree}
use Rattle.isp_solo_laws.proofs.laws.acts_agree.Goals as goal

pub returns : goal.returns
returns c = acts_agree
