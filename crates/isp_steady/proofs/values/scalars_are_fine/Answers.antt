use Rattle.isp_steady.proofs.Singles.{scalars_are_fine}
use Rattle.isp_steady.proofs.values.scalars_are_fine.Goals as goal

pub returns : goal.returns
returns c = scalars_are_fine
