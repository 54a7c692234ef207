use Rattle.isp_meaning.proofs.Distinct.{each_value_once}
use Rattle.isp_meaning.proofs.laws.each_value_once.Goals as goal

pub returns : goal.returns
returns c = each_value_once
