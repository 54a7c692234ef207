use Rattle.std.proofs.Common.{sym, ap, ◌∙◌, ◌-◌, ◌^◌, ◌<◌, bit_and, map, ℕ, arith, length, List, get_or, subst, pow_pos}
use Rattle.isp_base.specs.Values.{width}
use Rattle.isp_lanes.proofs.CellWords as cell
use Rattle.std.proofs.lemmas.List.{length-map}
use Rattle.isp_lanes.proofs.Fits.{map_fits}
use Rattle.isp_lanes.proofs.Rows.{map_twice, map_same}
use Rattle.isp_lanes.proofs.kernels.operators.InvertUnaryOperator.on.Goals as goal

pub low-requires-clause-long : goal.low-requires-clause-long
low-requires-clause-long g c = ap length c.inverse.ensures ∙ length-map (g.V.Words.words c.args.x) _ ∙ c.requires.long

pub low-requires-clause-room : goal.low-requires-clause-room
low-requires-clause-room g c =
    let w = g.V.Words.width in
    λ k. subst (λ (zs : List ℕ). get_or zs k 0 < 2 ^ w) (sym c.inverse.ensures) (map_fits (2 ^ w) (λ a. 2 ^ w - 1 - a) (pow_pos w) (λ a. omega (arith, pow_pos w)) (g.V.Words.words c.args.x) k)

pub returns : goal.returns
returns g c =
    let t = g.T.LaneElem.elem in
    let w = g.V.Words.width in
    let e = c.requires.wide in
    let xs = g.V.Words.words c.args.x in
    c.low.ensures
    ∙ ap (map (λ a. bit_and a (2 ^ width t - 1))) c.inverse.ensures ∙ map_twice (λ a. bit_and a (2 ^ width t - 1)) (λ a. 2 ^ w - 1 - a) xs
    ∙ map_same (λ a. a < 2 ^ width t) _ _ (cell.lane_invert w t e) xs c.requires.fits
