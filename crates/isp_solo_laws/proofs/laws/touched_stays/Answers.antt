use Rattle.isp_solo_laws.proofs.Whole.{touched_stays}
use Rattle.isp_solo_laws.proofs.laws.touched_stays.Goals as goal

pub returns : goal.returns
returns c = touched_stays
