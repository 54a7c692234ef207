use Rattle.isp_meaning_laws.proofs.Needed.{return_is_needed}
use Rattle.isp_meaning_laws.proofs.rules.return_is_needed.Goals as goal

pub returns : goal.returns
returns c = return_is_needed
