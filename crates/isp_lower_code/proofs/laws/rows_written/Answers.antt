use Rattle.isp_lower_code.proofs.RowAccess.{row_writes}
use Rattle.isp_lower_code.proofs.laws.rows_written.Goals as goal

pub returns : goal.returns
returns c = row_writes
