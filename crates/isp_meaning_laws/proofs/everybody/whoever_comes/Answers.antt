use Rattle.isp_meaning_laws.proofs.Everyone.{whoever_comes}
use Rattle.isp_meaning_laws.proofs.everybody.whoever_comes.Goals as goal

pub returns : goal.returns
returns c = whoever_comes
