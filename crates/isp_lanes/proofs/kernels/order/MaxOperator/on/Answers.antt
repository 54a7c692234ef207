use Rattle.std.proofs.Common.{◌≡◌, refl, ap, ◌∙◌, ℕ, ◌-◌, ◌^◌, ◌<◌, cond, nat_lt, arith, length, map}
use Rattle.isp_base.specs.Values.{width, greatest}
use Rattle.isp_base.specs.Words.{turned}
use Rattle.isp_lanes.specs.Lanes.{is_on}
use Rattle.isp_lanes.proofs.CellWords as cell
use Rattle.isp_lanes.proofs.Flags.{zip2_swap}
use Rattle.isp_lanes.proofs.Rows.{row_left, row_right, row_op1, row_select, row_same}
use Rattle.isp_lanes.proofs.kernels.order.MaxOperator.on.Goals as goal

pub returns-then-is_signed : goal.returns-then-is_signed
returns-then-is_signed g c =
    let t = g.T.LaneElem.elem in
    let w = g.V.Words.width in
    let xs = g.V.Words.words c.args.x in
    let ys = g.V.Words.words c.args.y in
    let same : length xs ≡ length ys = omega (arith, c.requires.x_row.long, c.requires.y_row.long) in
    let f : ℕ → ℕ = turned (width t) (greatest t) in
    let less : ℕ → ℕ → ℕ = λ a b. cond (nat_lt (f a) (f b)) (2 ^ w - 1) 0 in
    let tops = ap (map is_on) (c.less_signed.ensures ∙ zip2_swap less xs ys) ∙ row_op1 is_on (λ a b. less b a) xs ys refl in
    c.choose.ensures
    ∙ row_select (λ a b. is_on (less b a)) (λ a _. a) (λ _ b. b) xs ys tops (row_left xs ys same) (row_right xs ys same)
    ∙ row_same (λ a. a < 2 ^ width t) (λ b. b < 2 ^ width t) _ _ (cell.lane_max w t c.requires.x_row.wide) xs ys c.requires.x_row.fits c.requires.y_row.fits

pub returns-else-is_signed : goal.returns-else-is_signed
returns-else-is_signed g c =
    let t = g.T.LaneElem.elem in
    let w = g.V.Words.width in
    let xs = g.V.Words.words c.args.x in
    let ys = g.V.Words.words c.args.y in
    let same : length xs ≡ length ys = omega (arith, c.requires.x_row.long, c.requires.y_row.long) in
    let f : ℕ → ℕ = turned (width t) (greatest t) in
    let less : ℕ → ℕ → ℕ = λ a b. cond (nat_lt (f a) (f b)) (2 ^ w - 1) 0 in
    let tops = ap (map is_on) (c.less_unsigned.ensures ∙ zip2_swap less xs ys) ∙ row_op1 is_on (λ a b. less b a) xs ys refl in
    c.choose-else-is_signed.ensures
    ∙ row_select (λ a b. is_on (less b a)) (λ a _. a) (λ _ b. b) xs ys tops (row_left xs ys same) (row_right xs ys same)
    ∙ row_same (λ a. a < 2 ^ width t) (λ b. b < 2 ^ width t) _ _ (cell.lane_max w t c.requires.x_row.wide) xs ys c.requires.x_row.fits c.requires.y_row.fits
