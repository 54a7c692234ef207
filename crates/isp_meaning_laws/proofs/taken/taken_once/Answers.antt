use Rattle.isp_meaning_laws.proofs.Taking.{taken_once}
use Rattle.isp_meaning_laws.proofs.taken.taken_once.Goals as goal

pub returns : goal.returns
returns c = taken_once
