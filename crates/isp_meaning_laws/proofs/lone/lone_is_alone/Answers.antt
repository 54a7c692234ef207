use Rattle.isp_meaning_laws.proofs.LoneWhole.{lone_is_alone}
use Rattle.isp_meaning_laws.proofs.lone.lone_is_alone.Goals as goal

pub returns : goal.returns
returns c = lone_is_alone
