use Rattle.isp_meaning_laws.proofs.Decided.{members_decide}
use Rattle.isp_meaning_laws.proofs.decides.members_decide.Goals as goal

pub returns : goal.returns
returns c = members_decide
