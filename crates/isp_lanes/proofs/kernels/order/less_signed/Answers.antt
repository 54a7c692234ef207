use Rattle.std.proofs.Common.{◌≡◌, ◌∙◌, ℕ, ◌-◌, ◌^◌, cond, nat_lt, arith, length}
use Rattle.isp_base.specs.Values.{width, greatest}
use Rattle.isp_base.specs.Words.{turned}
use Rattle.isp_lanes.proofs.CellWords as cell
use Rattle.isp_lanes.proofs.Rows.{row_op2, row_map_left, row_map_right, map_same}
use Rattle.isp_lanes.proofs.kernels.order.less_signed.Goals as goal

pub returns : goal.returns
returns g c =
    let t = g.T.LaneElem.elem in
    let w = g.V.Words.width in
    let xs = g.V.Words.words c.args.x in
    let ys = g.V.Words.words c.args.y in
    let same : length xs ≡ length ys = omega (arith, c.requires.x_row.long, c.requires.y_row.long) in
    let f : ℕ → ℕ = turned (width t) (greatest t) in
    let turn_x = c.turned.ensures ∙ map_same (λ _. Unit {0}) _ f (λ a _. cell.turned_is w t c.requires.x_row.wide c.requires.signed a) xs (λ _. tt) in
    let turn_y = c.turned-2.ensures ∙ map_same (λ _. Unit {0}) _ f (λ a _. cell.turned_is w t c.requires.x_row.wide c.requires.signed a) ys (λ _. tt) in
    c.less.ensures
    ∙ row_op2 (λ a b. cond (nat_lt a b) (2 ^ w - 1) 0) (λ a _. f a) (λ _ b. f b) xs ys (turn_x ∙ row_map_left f xs ys same) (turn_y ∙ row_map_right f xs ys same)
