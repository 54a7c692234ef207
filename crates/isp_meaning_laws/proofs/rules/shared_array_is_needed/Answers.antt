use Rattle.isp_meaning_laws.proofs.Needed.{shared_array_is_needed}
use Rattle.isp_meaning_laws.proofs.rules.shared_array_is_needed.Goals as goal

pub returns : goal.returns
returns c = shared_array_is_needed
