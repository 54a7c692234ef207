use Rattle.isp_meaning.proofs.Present.{each_has_one}
use Rattle.isp_meaning.proofs.laws.each_has_one.Goals as goal

pub returns : goal.returns
returns c = each_has_one
