use Rattle.std.proofs.Common.{arith}
use Rattle.std.proofs.lemmas.Grind.{common_steps}
use Rattle.isp_frames.proofs.Begins.{stores_next}
use Rattle.isp_frames.proofs.passed.argument_arrays.Goals as goal

pub loop-store-preserved : goal.loop-store-preserved
loop-store-preserved g c = grind (arith, common_steps, stores_next)
