use Rattle.isp_solo_laws.proofs.Whole.{loops_agree}
use Rattle.isp_solo_laws.proofs.laws.loops_agree.Goals as goal

pub returns : goal.returns
returns c = loops_agree
