use Rattle.isp_meaning_laws.proofs.Sampled.{premises_of_samples}
use Rattle.isp_meaning_laws.proofs.samples.premises_of_samples.Goals as goal

pub returns : goal.returns
returns c = premises_of_samples
