use Rattle.std.proofs.Common.{refl, sym, ap, ◌∙◌, ℕ, ◌+◌, ◌-◌, ◌%◌, ◌^◌, ◌<◌, bit_and, length, List, get_or, subst, mod-lt, pow_pos}
use Rattle.isp_base.specs.Values.{width}
use native.Mathlib.Nat.{zero-mod}
use Rattle.std.proofs.lemmas.List.{length-replicate}
use Rattle.isp_lanes.proofs.CellWords as cell
use Rattle.isp_lanes.proofs.Fits.{zip2_fits}
use Rattle.isp_lanes.proofs.Rows.{row_left, row_op1, row_op2, row_splat_as, row_map_left, map_same, length_zip2}
use Rattle.isp_lanes.proofs.kernels.signs.negate.Goals as goal

pub low-requires-clause-long : goal.low-requires-clause-long
low-requires-clause-long g c =
    ap length c.minus.ensures ∙ length_zip2 _ (g.V.Words.words c.all.result) (g.V.Words.words c.args.x) g.row.N (ap length c.all.ensures ∙ length-replicate g.row.N _) c.requires.long

pub low-requires-clause-room : goal.low-requires-clause-room
low-requires-clause-room g c =
    let w = g.V.Words.width in
    λ k. subst (λ (zs : List ℕ). get_or zs k 0 < 2 ^ w) (sym c.minus.ensures) (zip2_fits (2 ^ w) (λ a b. (a + (2 ^ w - b)) % 2 ^ w) (pow_pos w) (λ a b. mod-lt (a + (2 ^ w - b)) (pow_pos w)) (g.V.Words.words c.all.result) (g.V.Words.words c.args.x) k)

pub returns : goal.returns
returns g c =
    let t = g.T.LaneElem.elem in
    let w = g.V.Words.width in
    let e = c.requires.wide in
    let xs = g.V.Words.words c.args.x in
    let n = g.row.N in
    let none = c.all.ensures ∙ row_splat_as _ 0 (zero-mod (2 ^ w)) n xs xs c.requires.long c.requires.long in
    c.low.ensures
    ∙ row_op1 (λ m. bit_and m (2 ^ width t - 1)) (λ a _. (0 + (2 ^ w - a)) % 2 ^ w) xs xs
    (c.minus.ensures ∙ row_op2 (λ a b. (a + (2 ^ w - b)) % 2 ^ w) (λ _ _. 0) (λ a _. a) xs xs none (row_left xs xs refl))
    ∙ sym (row_map_left _ xs xs refl)
    ∙ map_same (λ a. a < 2 ^ width t) _ _ (cell.lane_negate w t e) xs c.requires.fits
