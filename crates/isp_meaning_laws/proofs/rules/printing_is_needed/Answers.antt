use Rattle.isp_meaning_laws.proofs.Needed.{printing_is_needed}
use Rattle.isp_meaning_laws.proofs.rules.printing_is_needed.Goals as goal

pub returns : goal.returns
returns c = printing_is_needed
