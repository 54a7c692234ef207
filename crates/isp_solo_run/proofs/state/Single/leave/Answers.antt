use Rattle.std.proofs.Common.{refl, arith}
use Rattle.isp_solo_run.proofs.state.Single.leave.Goals as goal

pub returns : goal.returns
returns c = (refl, omega arith)
