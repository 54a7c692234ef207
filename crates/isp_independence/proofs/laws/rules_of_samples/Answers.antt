use Rattle.isp_independence.proofs.Examples.{rules_of_samples}
use Rattle.isp_independence.proofs.laws.rules_of_samples.Goals as goal

pub returns : goal.returns
returns c = rules_of_samples
