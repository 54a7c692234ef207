use Rattle.isp_meaning_laws.proofs.Needed.{crossing_is_needed}
use Rattle.isp_meaning_laws.proofs.rules.crossing_is_needed.Goals as goal

pub returns : goal.returns
returns c = crossing_is_needed
