use Rattle.std.proofs.Common.{◌≡◌, length}
use Rattle.isp_base.specs.Sets.{flag_of}
use Rattle.isp_cells.specs.Cells.{cleared}
use Rattle.isp_cells.proofs.gather.clear.Given as goal

abbrev pub invariant-loop-place : goal.invariant-loop-place
invariant-loop-place g l =
    record {
      size : length l.cells ≡ length l.initial.cells;
      cells : l.cells ≡ cleared g.C.Cell.with g.row.N (flag_of l.mask) l.place l.initial.cells;
    }
