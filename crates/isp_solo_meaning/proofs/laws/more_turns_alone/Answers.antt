use Rattle.isp_solo_meaning.proofs.MoreTurns.{more_turns_alone}
use Rattle.isp_solo_meaning.proofs.laws.more_turns_alone.Goals as goal

pub returns : goal.returns
returns c = more_turns_alone
