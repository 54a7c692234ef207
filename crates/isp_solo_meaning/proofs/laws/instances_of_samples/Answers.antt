use Rattle.isp_solo_meaning.proofs.Examples.{instances_of_samples}
use Rattle.isp_solo_meaning.proofs.laws.instances_of_samples.Goals as goal

pub returns : goal.returns
returns c = instances_of_samples
