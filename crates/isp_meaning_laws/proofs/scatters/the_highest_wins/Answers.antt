use Rattle.isp_meaning_laws.proofs.Scattered.{the_highest_wins}
use Rattle.isp_meaning_laws.proofs.scatters.the_highest_wins.Goals as goal

pub returns : goal.returns
returns c = the_highest_wins
