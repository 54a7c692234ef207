use Rattle.isp_meaning.proofs.Loads.{variables_stay}
use Rattle.isp_meaning.proofs.laws.variables_stay.Goals as goal

pub returns : goal.returns
returns c = variables_stay
