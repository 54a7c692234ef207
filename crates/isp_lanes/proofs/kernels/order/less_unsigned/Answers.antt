use Rattle.std.proofs.Common.{◌≡◌, sym, ◌∙◌, ℕ, ◌-◌, ◌^◌, ◌<◌, cond, nat_lt, arith, length, map-id}
use Rattle.isp_base.specs.Values.{width, greatest}
use Rattle.isp_base.specs.Words.{turned}
use Rattle.isp_lanes.proofs.CellWords as cell
use Rattle.isp_lanes.proofs.Rows.{row_op2, row_map_left, row_map_right, map_same}
use Rattle.isp_lanes.proofs.kernels.order.less_unsigned.Goals as goal

pub returns : goal.returns
returns g c =
    let t = g.T.LaneElem.elem in
    let w = g.V.Words.width in
    let xs = g.V.Words.words c.args.x in
    let ys = g.V.Words.words c.args.y in
    let same : length xs ≡ length ys = omega (arith, c.requires.x_row.long, c.requires.y_row.long) in
    let f : ℕ → ℕ = turned (width t) (greatest t) in
    let turn_x = sym (map-id xs) ∙ map_same (λ a. a < 2 ^ width t) (λ a. a) f (λ a p. cell.unturned t c.requires.unsigned a p) xs c.requires.x_row.fits in
    let turn_y = sym (map-id ys) ∙ map_same (λ a. a < 2 ^ width t) (λ a. a) f (λ a p. cell.unturned t c.requires.unsigned a p) ys c.requires.y_row.fits in
    c.less.ensures
    ∙ row_op2 (λ a b. cond (nat_lt a b) (2 ^ w - 1) 0) (λ a _. f a) (λ _ b. f b) xs ys (turn_x ∙ row_map_left f xs ys same) (turn_y ∙ row_map_right f xs ys same)
