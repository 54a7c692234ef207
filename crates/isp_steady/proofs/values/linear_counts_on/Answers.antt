use Rattle.isp_steady.proofs.Linears.{linear_counts_on}
use Rattle.isp_steady.proofs.values.linear_counts_on.Goals as goal

pub returns : goal.returns
returns c = linear_counts_on
