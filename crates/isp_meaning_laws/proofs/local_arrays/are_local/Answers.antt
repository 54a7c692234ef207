use Rattle.isp_meaning_laws.proofs.Locals.{are_local}
use Rattle.isp_meaning_laws.proofs.local_arrays.are_local.Goals as goal

pub returns : goal.returns
returns c = are_local
