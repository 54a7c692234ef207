use Rattle.isp_lower_code.proofs.KnownRows.{known_rows}
use Rattle.isp_lower_code.proofs.laws.rows_by_scalars.Goals as goal

pub returns : goal.returns
returns c = known_rows
