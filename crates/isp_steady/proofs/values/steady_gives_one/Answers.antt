use Rattle.isp_steady.proofs.Steadies.{steady_gives_one}
use Rattle.isp_steady.proofs.values.steady_gives_one.Goals as goal

pub returns : goal.returns
returns c = steady_gives_one
