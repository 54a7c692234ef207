use Rattle.isp_emitter_laws.proofs.Staying.{registers_grow}
use Rattle.isp_emitter_laws.proofs.laws.registers_grow.Goals as goal

pub returns : goal.returns
returns c = registers_grow
