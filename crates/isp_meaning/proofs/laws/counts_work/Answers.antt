use Rattle.isp_meaning.proofs.Small.{counts_work}
use Rattle.isp_meaning.proofs.laws.counts_work.Goals as goal

pub returns : goal.returns
returns c = counts_work
