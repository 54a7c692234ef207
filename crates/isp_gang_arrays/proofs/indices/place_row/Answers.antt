use Rattle.isp_gang_values.proofs.Rows.{begun}
use Rattle.isp_gang_arrays.proofs.indices.place_row.Goals as goal

pub loop-instance-init : goal.loop-instance-init
loop-instance-init c = begun _
