use Rattle.isp_emitter_laws.proofs.Fitting.{reserved_stays}
use Rattle.isp_emitter_laws.proofs.laws.reserved_stays.Goals as goal

pub returns : goal.returns
returns c = reserved_stays
