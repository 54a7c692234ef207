use Rattle.isp_headline.proofs.Whole.{bound_headline}
use Rattle.isp_headline.proofs.laws.bound_headline.Goals as goal

pub returns : goal.returns
returns c = bound_headline
