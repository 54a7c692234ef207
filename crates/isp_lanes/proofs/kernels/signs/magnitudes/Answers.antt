use Rattle.std.proofs.Common.{refl, sym, ap, ◌∙◌, ◌-◌, ◌%◌, ◌^◌, ◌<◌, cond, nat_lt, map, map-id}
use Rattle.isp_base.specs.Values.{width, greatest}
use Rattle.isp_lanes.specs.Lanes.{is_on}
use Rattle.isp_lanes.proofs.CellWords as cell
use Rattle.isp_lanes.proofs.Rows.{row_left, row_op1, row_select, row_map_left, map_same}
use Rattle.isp_lanes.proofs.kernels.signs.magnitudes.Goals as goal

pub returns-then-is_signed : goal.returns-then-is_signed
returns-then-is_signed g c =
    let t = g.T.LaneElem.elem in
    let w = g.V.Words.width in
    let e = c.requires.wide in
    let xs = g.V.Words.words c.args.x in
    let n = g.row.N in
    let signs = ap (map is_on) c.signs.ensures ∙ row_op1 is_on (λ a _. cond (nat_lt (greatest t) a) (2 ^ w - 1) 0) xs xs (row_map_left (λ a. cond (nat_lt (greatest t) a) (2 ^ w - 1) 0) xs xs refl) in
    c.choose.ensures
    ∙ row_select (λ a _. is_on (cond (nat_lt (greatest t) a) (2 ^ w - 1) 0)) (λ a _. (2 ^ width t - a) % 2 ^ width t) (λ a _. a) xs xs signs (c.negate.ensures ∙ row_map_left _ xs xs refl) (row_left xs xs refl)
    ∙ sym (row_map_left _ xs xs refl)
    ∙ map_same (λ a. a < 2 ^ width t) _ _ (cell.lane_magnitude w t e) xs c.requires.fits

pub returns-else-is_signed : goal.returns-else-is_signed
returns-else-is_signed g c =
    let t = g.T.LaneElem.elem in
    let xs = g.V.Words.words c.args.x in
    sym (map-id xs) ∙ map_same (λ a. a < 2 ^ width t) (λ a. a) _ (λ a p. cell.plain_magnitude t (sym c.is_signed.ensures ∙ c.if-is_signed.false) a p) xs c.requires.fits
