use Rattle.isp_lanes.proofs.Numbers.{take_numbers}
use Rattle.isp_lanes.proofs.kernels.numbers.Goals as goal

pub returns : goal.returns
returns g c = take_numbers 0 64 g.row.N c.requires
