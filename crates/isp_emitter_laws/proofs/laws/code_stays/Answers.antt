use Rattle.isp_emitter_laws.proofs.Staying.{code_stays}
use Rattle.isp_emitter_laws.proofs.laws.code_stays.Goals as goal

pub returns : goal.returns
returns c = code_stays
