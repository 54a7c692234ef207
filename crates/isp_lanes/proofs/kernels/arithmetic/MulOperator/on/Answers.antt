use Rattle.std.proofs.Common.{sym, ap, ◌∙◌, ℕ, ◌-◌, ◌*◌, ◌%◌, ◌^◌, ◌<◌, bit_and, length, List, get_or, subst, mod-lt, pow_pos}
use Rattle.isp_base.specs.Values.{width}
use Rattle.isp_lanes.proofs.CellWords.{lane_mul}
use Rattle.isp_lanes.proofs.Fits.{zip2_fits}
use Rattle.isp_lanes.proofs.Rows.{row_op1, row_same, length_zip2}
use Rattle.isp_lanes.proofs.kernels.arithmetic.MulOperator.on.Goals as goal

pub low-requires-clause-long : goal.low-requires-clause-long
low-requires-clause-long g c = ap length c.times.ensures ∙ length_zip2 _ (g.V.Words.words c.args.x) (g.V.Words.words c.args.y) g.row.N c.requires.x_row.long c.requires.y_row.long

pub low-requires-clause-room : goal.low-requires-clause-room
low-requires-clause-room g c =
    let w = g.V.Words.width in
    λ k. subst (λ (zs : List ℕ). get_or zs k 0 < 2 ^ w) (sym c.times.ensures) (zip2_fits (2 ^ w) (λ a b. (a * b) % 2 ^ w) (pow_pos w) (λ a b. mod-lt (a * b) (pow_pos w)) (g.V.Words.words c.args.x) (g.V.Words.words c.args.y) k)

pub returns : goal.returns
returns g c =
    let t = g.T.LaneElem.elem in
    let w = g.V.Words.width in
    let xs = g.V.Words.words c.args.x in
    let ys = g.V.Words.words c.args.y in
    c.low.ensures
    ∙ row_op1 (λ m. bit_and m (2 ^ width t - 1)) (λ a b. (a * b) % 2 ^ w) xs ys c.times.ensures
    ∙ row_same (λ a. a < 2 ^ width t) (λ b. b < 2 ^ width t) _ _ (lane_mul w t c.requires.x_row.wide) xs ys c.requires.x_row.fits c.requires.y_row.fits
