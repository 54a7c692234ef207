use Rattle.isp_solo_run.proofs.Touching.{clashes_are_found}
use Rattle.isp_solo_run.proofs.touches.clashes_are_found.Goals as goal

pub returns : goal.returns
returns c = clashes_are_found
