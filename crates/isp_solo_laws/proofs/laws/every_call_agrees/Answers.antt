use Rattle.isp_solo_laws.proofs.Whole.{every_call_agrees}
use Rattle.isp_solo_laws.proofs.laws.every_call_agrees.Goals as goal

pub returns : goal.returns
returns c = every_call_agrees
