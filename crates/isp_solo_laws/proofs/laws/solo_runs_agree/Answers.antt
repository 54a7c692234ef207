use Rattle.isp_solo_laws.proofs.Entry.{solo_runs_agree}
use Rattle.isp_solo_laws.proofs.laws.solo_runs_agree.Goals as goal

pub returns : goal.returns
returns c = solo_runs_agree
