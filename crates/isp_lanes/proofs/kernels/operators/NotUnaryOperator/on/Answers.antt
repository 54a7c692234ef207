use Rattle.std.proofs.Common.{refl, sym, ◌∙◌, ◌-◌, ◌^◌, ◌<◌, ◌==◌, cond, bit_and}
use Rattle.isp_base.specs.Values.{width}
use native.Mathlib.Nat.{zero-mod}
use Rattle.isp_lanes.proofs.CellWords as cell
use Rattle.isp_lanes.proofs.Rows.{row_left, row_op2, row_splat_as, row_map_left, map_same}
use Rattle.isp_lanes.proofs.kernels.operators.NotUnaryOperator.on.Goals as goal

pub returns : goal.returns
returns g c =
    let t = g.T.LaneElem.elem in
    let w = g.V.Words.width in
    let e = c.requires.wide in
    let xs = g.V.Words.words c.args.x in
    let n = g.row.N in
    c.and.ensures
    ∙ row_op2 bit_and (λ a _. cond (a == 0) (2 ^ w - 1) 0) (λ _ _. 1) xs xs
    (c.equal.ensures ∙ row_op2 (λ a b. cond (a == b) (2 ^ w - 1) 0) (λ a _. a) (λ _ _. 0) xs xs (row_left xs xs refl) (c.all.ensures ∙ row_splat_as _ 0 (zero-mod (2 ^ w)) n xs xs c.requires.long c.requires.long))
    (c.all-2.ensures ∙ row_splat_as _ 1 g.V.Words.holds_one n xs xs c.requires.long c.requires.long)
    ∙ sym (row_map_left _ xs xs refl)
    ∙ map_same (λ a. a < 2 ^ width t) _ _ (cell.lane_not w t e) xs c.requires.fits
