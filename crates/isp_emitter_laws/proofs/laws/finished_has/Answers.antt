use Rattle.isp_emitter_laws.proofs.Finished.{finished_has}
use Rattle.isp_emitter_laws.proofs.laws.finished_has.Goals as goal

pub returns : goal.returns
returns c = finished_has
