use Rattle.isp_meaning_laws.proofs.Dealt.{dealt_once}
use Rattle.isp_meaning_laws.proofs.deals.dealt_once.Goals as goal

pub returns : goal.returns
returns c = dealt_once
