use Rattle.std.proofs.Common.{◌≡◌, ap, ◌∙◌, ℕ, ◌-◌, ◌^◌, ◌<◌, cond, arith, length, Bool}
use Rattle.isp_base.specs.Values.{width}
use Rattle.isp_lanes.specs.Lanes.{is_on}
use Rattle.isp_lanes.proofs.CellWords as cell
use Rattle.isp_lanes.proofs.Rows.{row_op1, row_same}
use Rattle.isp_base.specs.Values.{number, compare_to}
use Rattle.isp_lanes.proofs.kernels.compare.Goals as goal

pub returns : goal.returns
returns g c =
    let t = g.T.LaneElem.elem in
    let w = g.V.Words.width in
    let e = c.requires.x_row.wide in
    let xs = g.V.Words.words c.args.x in
    let ys = g.V.Words.words c.args.y in
    let n = g.row.N in
    let same : length xs ≡ length ys = omega (arith, c.requires.x_row.long, c.requires.y_row.long) in
    let holds : ℕ → ℕ → Bool = λ a b. compare_to c.args.compare (number t a) (number t b) in
    c.flags.ensures
    ∙ row_op1 (λ a. cond (is_on a) 1 0) (λ a b. cond (holds a b) (2 ^ w - 1) 0) xs ys c.holds.ensures
    ∙ row_same (λ a. a < 2 ^ width t) (λ b. b < 2 ^ width t) _ _ (λ a b p q. ap (λ s. cond s 1 0) (cell.on_truth w (cell.w_some w t e) (holds a b))) xs ys c.requires.x_row.fits c.requires.y_row.fits
