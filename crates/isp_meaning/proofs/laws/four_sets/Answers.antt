use Rattle.isp_meaning.proofs.Parts.{four_sets}
use Rattle.isp_meaning.proofs.laws.four_sets.Goals as goal

pub returns : goal.returns
returns c = four_sets
