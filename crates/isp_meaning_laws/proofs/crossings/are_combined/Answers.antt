use Rattle.isp_meaning_laws.proofs.Crossed.{are_combined}
use Rattle.isp_meaning_laws.proofs.crossings.are_combined.Goals as goal

pub returns : goal.returns
returns c = are_combined
