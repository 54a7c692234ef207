use Rattle.std.proofs.Common.{◌∙◌, ◌^◌, ◌<◌}
use Rattle.isp_base.specs.Values.{width}
use Rattle.isp_lanes.proofs.CellWords as cell
use Rattle.isp_lanes.proofs.Rows.{map_same}
use Rattle.isp_lanes.proofs.kernels.operators.NegateUnaryOperator.on.Goals as goal

pub returns : goal.returns
returns g c =
    let t = g.T.LaneElem.elem in
    let w = g.V.Words.width in
    let e = c.requires.wide in
    let xs = g.V.Words.words c.args.x in
    let n = g.row.N in
    c.negate.ensures
    ∙ map_same (λ a. a < 2 ^ width t) _ _ (cell.unary_negate t) xs c.requires.fits
