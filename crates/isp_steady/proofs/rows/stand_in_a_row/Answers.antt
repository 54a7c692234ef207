use Rattle.isp_steady.proofs.Standing.{stand_in_a_row}
use Rattle.isp_steady.proofs.rows.stand_in_a_row.Goals as goal

pub returns : goal.returns
returns c = stand_in_a_row
