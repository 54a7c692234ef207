use Rattle.isp_solo_laws.proofs.Sampled.{agreement_of_samples}
use Rattle.isp_solo_laws.proofs.laws.agreement_of_samples.Goals as goal

pub returns : goal.returns
returns c = agreement_of_samples
