use Rattle.isp_typed.proofs.Samples.{scopes_of_samples}
use Rattle.isp_typed.proofs.laws.scopes_of_samples.Goals as goal

pub returns : goal.returns
returns c = scopes_of_samples
