use Rattle.std.proofs.Common.{◌≡◌}
use Rattle.isp_base.specs.Maps.{lane_of}
use Rattle.isp_base.specs.Sets.{flag_of}
use Rattle.isp_cells.specs.Cells.{stored}
use Rattle.isp_cells.proofs.gather.leave.Given as goal

abbrev pub invariant-loop-lane : goal.invariant-loop-lane
invariant-loop-lane g l = l.cells ≡ stored g.C.Cell.with l.lane (flag_of l.mask) (lane_of l.places) (g.R.Cell.find l.row) l.initial.cells
