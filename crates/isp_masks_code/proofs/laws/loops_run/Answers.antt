use Rattle.isp_masks_code.proofs.Loops.{loops_run}
use Rattle.isp_masks_code.proofs.laws.loops_run.Goals as goal

pub returns : goal.returns
returns c = loops_run
