use Rattle.isp_meaning.proofs.Later.{more_turns}
use Rattle.isp_meaning.proofs.laws.more_turns.Goals as goal

pub returns : goal.returns
returns c = more_turns
