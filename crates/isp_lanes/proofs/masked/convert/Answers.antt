use Rattle.std.proofs.Common.{ap, ◌∙◌, sym, ◌<◌, ◌*◌, ◌+◌, ◌-◌, ◌%◌, ◌^◌, arith, map, bit_xor}
use Rattle.isp_base.specs.Values.{width}
use Rattle.isp_lanes.proofs.CellWords as cell
use Rattle.isp_lanes.proofs.Rows.{map_same, map_twice}
use Rattle.isp_lanes.proofs.masked.convert.Goals as goal

pub spread-requires : goal.spread-requires
spread-requires g c = let few : g.row.N * 8 < 9223372036854775808 = omega (arith, c.requires.few) in few

pub cut-requires : goal.cut-requires
cut-requires g c = let few : g.row.N * 8 < 9223372036854775808 = omega (arith, c.requires.few) in few

pub wide-requires : goal.wide-requires
wide-requires g c = let few : g.row.N * 8 < 9223372036854775808 = omega (arith, c.requires.few) in few

pub cut-requires-else-is_signed : goal.cut-requires-else-is_signed
cut-requires-else-is_signed g c = let few : g.row.N * 8 < 9223372036854775808 = omega (arith, c.requires.few) in few

pub returns-then-is_signed : goal.returns-then-is_signed
returns-then-is_signed g c =
    let t = g.T.LaneElem.elem in
    let w = g.V.Words.width in
    let n = g.W.Words.width in
    let xs = g.V.Words.words c.args.x in
    c.cut.ensures ∙ ap (map (λ a. a % 2 ^ n)) c.spread.ensures ∙ map_twice (λ a. a % 2 ^ n) (λ a. (bit_xor a (2 ^ (w - 1)) + (2 ^ 64 - 2 ^ (w - 1))) % 2 ^ 64) xs
    ∙ map_same (λ a. a < 2 ^ width t) _ _ (λ a p. cell.lane_spread w n t c.args.to c.requires.x_row.wide c.requires.wide a p (sym c.is_signed.ensures ∙ c.if-is_signed.true)) xs c.requires.x_row.fits

pub returns-else-is_signed : goal.returns-else-is_signed
returns-else-is_signed g c =
    let t = g.T.LaneElem.elem in
    let n = g.W.Words.width in
    let xs = g.V.Words.words c.args.x in
    c.cut-else-is_signed.ensures ∙ ap (map (λ a. a % 2 ^ n)) c.wide.ensures
    ∙ map_same (λ a. a < 2 ^ width t) _ _ (λ a p. cell.lane_wide g.V.Words.width n t c.args.to c.requires.x_row.wide c.requires.wide a p (sym c.is_signed.ensures ∙ c.if-is_signed.false)) xs c.requires.x_row.fits
