use Rattle.isp_meaning_laws.proofs.Needed.{outside_is_needed}
use Rattle.isp_meaning_laws.proofs.rules.outside_is_needed.Goals as goal

pub returns : goal.returns
returns c = outside_is_needed
