use Rattle.std.proofs.Common.{ap, ◌∙◌, length}
use Rattle.isp_base.specs.Maps.{Lanes, lane_of, put}
use Rattle.isp_store.specs.Held.{bits_of}
use Rattle.isp_cells.proofs.Found.{zero_lanes, length_zeros}
use Rattle.isp_store.proofs.RowLists.{rows_put, row_shapes}
use Rattle.isp_store.proofs.rows.clear.Goals as goal

pub returns-clause-elements : goal.returns-clause-elements
returns-clause-elements c =
    let a = c.args in
    rows_put a.rows.now a.array c.zero.new.array c.requires ∙ ap (λ (f : Lanes). put (bits_of a.rows.now) a.array f) (ap lane_of c.zero.ensures.elements ∙ zero_lanes _)

pub returns-clause-shapes : goal.returns-clause-shapes
returns-clause-shapes c = row_shapes c.args.rows.now c.args.array _ c.zero.new.array c.requires c.zero.ensures.elem (ap length c.zero.ensures.elements ∙ length_zeros _)
