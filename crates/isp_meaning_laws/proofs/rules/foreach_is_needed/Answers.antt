use Rattle.isp_meaning_laws.proofs.Needed.{foreach_is_needed}
use Rattle.isp_meaning_laws.proofs.rules.foreach_is_needed.Goals as goal

pub returns : goal.returns
returns c = foreach_is_needed
