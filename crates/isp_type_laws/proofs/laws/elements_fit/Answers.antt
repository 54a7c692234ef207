use Rattle.isp_type_laws.proofs.Runs.{elements_fit}
use Rattle.isp_type_laws.proofs.laws.elements_fit.Goals as goal

pub returns : goal.returns
returns c = elements_fit
