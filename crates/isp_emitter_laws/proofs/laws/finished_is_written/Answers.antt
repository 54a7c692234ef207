use Rattle.isp_emitter_laws.proofs.Called.{finished_is_written}
use Rattle.isp_emitter_laws.proofs.laws.finished_is_written.Goals as goal

pub returns : goal.returns
returns c = finished_is_written c.finished_has.ensures
