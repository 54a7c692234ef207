use Rattle.isp_meaning.proofs.Small.{idle_branches}
use Rattle.isp_meaning.proofs.laws.idle_branches.Goals as goal

pub returns : goal.returns
returns c = idle_branches
