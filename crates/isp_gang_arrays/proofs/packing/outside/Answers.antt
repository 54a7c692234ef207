use Rattle.isp_gang_values.proofs.Masks.{begun}
use Rattle.isp_gang_arrays.proofs.packing.outside.Goals as goal

pub loop-instance-init : goal.loop-instance-init
loop-instance-init c = begun _
