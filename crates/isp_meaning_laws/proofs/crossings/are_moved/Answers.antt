use Rattle.isp_meaning_laws.proofs.Crossed.{are_moved}
use Rattle.isp_meaning_laws.proofs.crossings.are_moved.Goals as goal

pub returns : goal.returns
returns c = are_moved
