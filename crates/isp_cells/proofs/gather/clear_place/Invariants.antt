use Rattle.std.proofs.Common.{◌≡◌}
use Rattle.isp_base.specs.Sets.{flag_of}
use Rattle.isp_cells.specs.Cells.{stored}
use Rattle.isp_cells.proofs.gather.clear_place.Given as goal

abbrev pub invariant-loop-lane : goal.invariant-loop-lane
invariant-loop-lane g l = l.cells ≡ stored g.C.Cell.with l.lane (flag_of l.mask) (λ p. l.place) (λ p. 0) l.initial.cells
