use Rattle.std.proofs.Common.{sym, ap, ◌∙◌, ℕ, ◌-◌, ◌^◌, ◌<◌, cond, nat_lt, map, replicate}
use Rattle.isp_base.specs.Values.{width}
use native.Mathlib.Nat.{zero-mod}
use Rattle.isp_lanes.proofs.CellWords as cell
use Rattle.isp_lanes.proofs.Rows.{zeros, map_same}
use Rattle.isp_lanes.proofs.kernels.signs.signs.Goals as goal

pub returns-then-is_signed : goal.returns-then-is_signed
returns-then-is_signed g c =
    let t = g.T.LaneElem.elem in
    let w = g.V.Words.width in
    let e = c.requires.wide in
    let xs = g.V.Words.words c.args.x in
    let n = g.row.N in
    c.signs.ensures ∙ ap (λ m. map (λ a. cond (nat_lt m a) (2 ^ w - 1) 0) xs) (cell.greatest_is w t e (sym c.is_signed.ensures ∙ c.if-is_signed.true))

pub returns-else-is_signed : goal.returns-else-is_signed
returns-else-is_signed g c =
    let t = g.T.LaneElem.elem in
    let w = g.V.Words.width in
    let e = c.requires.wide in
    let xs = g.V.Words.words c.args.x in
    let n = g.row.N in
    c.all.ensures ∙ ap (replicate {A = ℕ} n) (zero-mod (2 ^ w)) ∙ zeros n xs c.requires.long
    ∙ map_same (λ a. a < 2 ^ width t) (λ _. 0) _ (λ a p. ap (λ b. cond b (2 ^ w - 1) 0) (sym (cell.no_sign t (sym c.is_signed.ensures ∙ c.if-is_signed.false) a p))) xs c.requires.fits
