use Rattle.isp_meaning_laws.proofs.Needed.{turned_is_needed}
use Rattle.isp_meaning_laws.proofs.rules.turned_is_needed.Goals as goal

pub returns : goal.returns
returns c = turned_is_needed
