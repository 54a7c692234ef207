use Rattle.std.proofs.Common.{◌≡◌, sym, ◌∙◌, ℕ, ◌-◌, ◌/◌, ◌^◌, ◌<◌, cond, nat_lt, arith, bit_and, bit_xor, subst, length, List}
use Rattle.std.specs.Simd.Lanes.{Each2}
use Rattle.isp_base.specs.Values.{width, greatest}
use Rattle.isp_lanes.proofs.CellWords as cell
use Rattle.isp_lanes.proofs.Rows.{row_left, row_op2, row_same, row_map_right, row_map_left, each_below}
use Rattle.isp_lanes.proofs.kernels.shifts.ShrOperator.on.Goals as goal

pub right-shifted-requires : goal.right-shifted-requires
right-shifted-requires g c =
    let t = g.T.LaneElem.elem in
    let w = g.V.Words.width in
    let e = c.requires.x_row.wide in
    let xs = g.V.Words.words c.args.x in
    let ys = g.V.Words.words c.args.y in
    let same : length xs ≡ length ys = omega (arith, c.requires.x_row.long, c.requires.y_row.long) in
    let first = g.V.Words.words c.xor.result in
    subst (λ (zs : List ℕ). Each2 (λ (a b : ℕ). b < w) first zs) (sym (c.amounts-by.ensures ∙ row_map_right (λ b. bit_and b (width t - 1)) xs ys same)) (each_below w (λ _ b. bit_and b (width t - 1)) (λ _ b. cell.amount_lt_w w t e b) first xs ys)

pub right-requires : goal.right-requires
right-requires g c =
    let t = g.T.LaneElem.elem in
    let w = g.V.Words.width in
    let e = c.requires.x_row.wide in
    let xs = g.V.Words.words c.args.x in
    let ys = g.V.Words.words c.args.y in
    let same : length xs ≡ length ys = omega (arith, c.requires.x_row.long, c.requires.y_row.long) in
    let first = xs in
    subst (λ (zs : List ℕ). Each2 (λ (a b : ℕ). b < w) first zs) (sym (c.amounts-by.ensures ∙ row_map_right (λ b. bit_and b (width t - 1)) xs ys same)) (each_below w (λ _ b. bit_and b (width t - 1)) (λ _ b. cell.amount_lt_w w t e b) first xs ys)

pub returns-then-is_signed : goal.returns-then-is_signed
returns-then-is_signed g c =
    let t = g.T.LaneElem.elem in
    let w = g.V.Words.width in
    let e = c.requires.x_row.wide in
    let xs = g.V.Words.words c.args.x in
    let ys = g.V.Words.words c.args.y in
    let same : length xs ≡ length ys = omega (arith, c.requires.x_row.long, c.requires.y_row.long) in
    let by = c.amounts-by.ensures ∙ row_map_right (λ b. bit_and b (width t - 1)) xs ys same in
    let sign : ℕ → ℕ → ℕ = λ a _. cond (nat_lt (greatest t) a) (2 ^ w - 1) 0 in
    let signs = c.signs-negative.ensures ∙ row_map_left (λ a. cond (nat_lt (greatest t) a) (2 ^ w - 1) 0) xs ys same in
    let picked = c.xor.ensures ∙ row_op2 bit_xor (λ a _. a) sign xs ys (row_left xs ys same) signs in
    let shifted = c.right-shifted.ensures ∙ row_op2 (λ a b. a / 2 ^ b) (λ a b. bit_xor a (sign a b)) (λ _ b. bit_and b (width t - 1)) xs ys picked by in
    c.xor-then-is_signed.ensures
    ∙ row_op2 bit_xor (λ a b. bit_xor a (sign a b) / 2 ^ bit_and b (width t - 1)) sign xs ys shifted signs
    ∙ row_same (λ a. a < 2 ^ width t) (λ b. b < 2 ^ width t) _ _ (cell.lane_shr w t e) xs ys c.requires.x_row.fits c.requires.y_row.fits

pub returns-else-is_signed : goal.returns-else-is_signed
returns-else-is_signed g c =
    let t = g.T.LaneElem.elem in
    let w = g.V.Words.width in
    let e = c.requires.x_row.wide in
    let xs = g.V.Words.words c.args.x in
    let ys = g.V.Words.words c.args.y in
    let same : length xs ≡ length ys = omega (arith, c.requires.x_row.long, c.requires.y_row.long) in
    let by = c.amounts-by.ensures ∙ row_map_right (λ b. bit_and b (width t - 1)) xs ys same in
    c.right.ensures
    ∙ row_op2 (λ a b. a / 2 ^ b) (λ a _. a) (λ _ b. bit_and b (width t - 1)) xs ys (row_left xs ys same) by
    ∙ row_same (λ a. a < 2 ^ width t) (λ b. b < 2 ^ width t) _ _ (λ a b p q. cell.plain_shr t (sym c.is_signed.ensures ∙ c.if-is_signed.false) a p b q) xs ys c.requires.x_row.fits c.requires.y_row.fits
