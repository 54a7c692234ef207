use Rattle.isp_solo_laws.proofs.Turns.{each_with_its_turns}
use Rattle.isp_solo_laws.proofs.laws.each_with_its_turns.Goals as goal

pub returns : goal.returns
returns c = each_with_its_turns
