use Rattle.isp_emitter_laws.proofs.Parts.{parts_stay, patched_stays}
use Rattle.isp_emitter_laws.proofs.laws.parts_stay.Goals as goal

pub returns-clause-instructions : goal.returns-clause-instructions
returns-clause-instructions c = parts_stay

pub returns-clause-places : goal.returns-clause-places
returns-clause-places c = parts_stay

pub returns-clause-patched : goal.returns-clause-patched
returns-clause-patched c = patched_stays
