use Rattle.isp_headline.proofs.Whole.{headline}
use Rattle.isp_headline.proofs.laws.headline.Goals as goal

pub returns : goal.returns
returns c = headline
