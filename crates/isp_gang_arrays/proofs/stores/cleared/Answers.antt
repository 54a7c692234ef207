use Rattle.isp_gang_values.proofs.Rows.{begun_lanes}
use Rattle.isp_gang_arrays.proofs.stores.cleared.Goals as goal

pub loop-instance-init : goal.loop-instance-init
loop-instance-init c = begun_lanes _
