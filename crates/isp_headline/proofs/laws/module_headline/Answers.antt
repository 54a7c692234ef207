use Rattle.isp_headline.proofs.Modules.{module_headline}
use Rattle.isp_headline.proofs.laws.module_headline.Goals as goal

pub returns : goal.returns
returns c = module_headline c.kernels_agree.ensures c.modules_are_valid.ensures
