use Rattle.std.proofs.Common.{◌≡◌, sym, ap, ◌∙◌, ℕ, ◌-◌, ◌*◌, ◌%◌, ◌^◌, ◌<◌, arith, bit_and, subst, length, List, get_or, mod-lt, pow_pos}
use Rattle.std.specs.Simd.Lanes.{Each2}
use Rattle.isp_base.specs.Values.{width}
use Rattle.isp_lanes.proofs.CellWords as cell
use Rattle.std.proofs.lemmas.List.{length-map}
use Rattle.isp_lanes.proofs.Fits.{zip2_fits}
use Rattle.isp_lanes.proofs.Rows.{length_zip2, row_op1, row_left, row_op2, row_same, row_map_right, each_below}
use Rattle.isp_lanes.proofs.kernels.shifts.ShlOperator.on.Goals as goal

pub left-requires : goal.left-requires
left-requires g c =
    let t = g.T.LaneElem.elem in
    let w = g.V.Words.width in
    let e = c.requires.x_row.wide in
    let xs = g.V.Words.words c.args.x in
    let ys = g.V.Words.words c.args.y in
    let same : length xs ≡ length ys = omega (arith, c.requires.x_row.long, c.requires.y_row.long) in
    subst (λ (zs : List ℕ). Each2 (λ (a b : ℕ). b < w) xs zs) (sym (c.amounts-by.ensures ∙ row_map_right (λ b. bit_and b (width t - 1)) xs ys same)) (each_below w (λ _ b. bit_and b (width t - 1)) (λ _ b. cell.amount_lt_w w t e b) xs xs ys)

pub low-requires-clause-long : goal.low-requires-clause-long
low-requires-clause-long g c =
    let ys = g.V.Words.words c.args.y in
    let amounts = ap length c.amounts-by.ensures ∙ length-map ys _ ∙ c.requires.y_row.long in
    ap length c.left.ensures ∙ length_zip2 _ (g.V.Words.words c.args.x) (g.V.Words.words c.amounts-by.result) g.row.N c.requires.x_row.long amounts

pub low-requires-clause-room : goal.low-requires-clause-room
low-requires-clause-room g c =
    let w = g.V.Words.width in
    λ k. subst (λ (zs : List ℕ). get_or zs k 0 < 2 ^ w) (sym c.left.ensures) (zip2_fits (2 ^ w) (λ a b. (a * 2 ^ b) % 2 ^ w) (pow_pos w) (λ a b. mod-lt (a * 2 ^ b) (pow_pos w)) (g.V.Words.words c.args.x) (g.V.Words.words c.amounts-by.result) k)

pub returns : goal.returns
returns g c =
    let t = g.T.LaneElem.elem in
    let w = g.V.Words.width in
    let e = c.requires.x_row.wide in
    let xs = g.V.Words.words c.args.x in
    let ys = g.V.Words.words c.args.y in
    let same : length xs ≡ length ys = omega (arith, c.requires.x_row.long, c.requires.y_row.long) in
    let by = c.amounts-by.ensures ∙ row_map_right (λ b. bit_and b (width t - 1)) xs ys same in
    c.low.ensures
    ∙ row_op1 (λ m. bit_and m (2 ^ width t - 1)) (λ a b. (a * 2 ^ bit_and b (width t - 1)) % 2 ^ w) xs ys
    (c.left.ensures ∙ row_op2 (λ a b. (a * 2 ^ b) % 2 ^ w) (λ a _. a) (λ _ b. bit_and b (width t - 1)) xs ys (row_left xs ys same) by)
    ∙ row_same (λ a. a < 2 ^ width t) (λ b. b < 2 ^ width t) _ _ (cell.lane_shl w t e) xs ys c.requires.x_row.fits c.requires.y_row.fits
