use Rattle.isp_lower_code.proofs.RowAccess.{row_reads}
use Rattle.isp_lower_code.proofs.laws.rows_read.Goals as goal

pub returns : goal.returns
returns c = row_reads
