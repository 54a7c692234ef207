use Rattle.isp_meaning.proofs.Others.{others_stay}
use Rattle.isp_meaning.proofs.laws.others_stay.Goals as goal

pub returns : goal.returns
returns c = others_stay
