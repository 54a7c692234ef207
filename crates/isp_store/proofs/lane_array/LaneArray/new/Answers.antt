use Rattle.std.proofs.Common.{sym, ap, ◌∙◌, subst}
use Rattle.isp_cells.specs.Cells.{found, row_word}
use Rattle.isp_store.specs.LaneRows.{lists, rows_width, AreRows}
use Rattle.isp_store.proofs.Own.{own_rows, zero_rows, are_zero}
use Rattle.isp_store.proofs.lane_array.LaneArray.new.Goals as goal

pub invariant_of-result : goal.invariant_of-result
invariant_of-result g c =
    let rows = c.in_ok-rows.rows in
    subst (AreRows g.row.N (rows_width rows) c.args.elem) (sym c.in_ok-rows.ensures.zeros) (are_zero c.args.count g.row.N (rows_width rows) c.args.elem c.in_ok-rows.ensures.wide)

pub returns-clause-zeros : goal.returns-clause-zeros
returns-clause-zeros g c = own_rows c.args.elem (lists c.in_ok-rows.rows) ∙ ap (found row_word) c.in_ok-rows.ensures.zeros ∙ zero_rows c.args.count g.row.N
