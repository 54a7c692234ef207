use Rattle.isp_solo_meaning.proofs.MoreTurns.{traps_name_the_instance}
use Rattle.isp_solo_meaning.proofs.laws.traps_name_the_instance.Goals as goal

pub returns : goal.returns
returns c = traps_name_the_instance
