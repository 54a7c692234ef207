use Rattle.std.proofs.Common.{sym, ap, ◌∙◌, subst, List, ℕ, ◌<◌, ◌^◌, length, get_or}
use Rattle.std.specs.Simd.Lanes.{zip2, sel_l}
use Rattle.isp_base.specs.Values.{width, op_bits}
use Rattle.isp_lanes.specs.Held.{IsRow}
use Rattle.isp_lanes.proofs.CellWords.{some_bits}
use Rattle.isp_lanes.proofs.Divisors.{stand_in_fits, stand_in_nonzero, stand_in_same, stand_in_length}
use Rattle.isp_lanes.proofs.masked.divide.Goals as goal

pub divide-requires-clause-y_row : goal.divide-requires-clause-y_row
divide-requires-clause-y_row g c =
    let t = g.T.LaneElem.elem in
    let ms = c.args.mask.now in
    let ys = g.V.Words.words c.args.y in
    subst (λ (zs : List ℕ). IsRow g.row.N g.V.Words.width t zs) (sym c.safe_divisors-divisors.ensures)
    (record {
      wide = c.requires.y_row.wide;
      long = stand_in_length c.args.op g.row.N ms ys c.told.ensures.long c.requires.y_row.long;
      fits = stand_in_fits c.args.op (2 ^ width t) (some_bits t) ms ys c.requires.y_row.fits;
    })

pub divide-requires-clause-divisors : goal.divide-requires-clause-divisors
divide-requires-clause-divisors g c =
    subst (λ (zs : List ℕ). (k : ℕ) → k < length zs → 0 < get_or zs k 0) (sym c.safe_divisors-divisors.ensures)
    (stand_in_nonzero c.args.op c.args.mask.now (g.V.Words.words c.args.y) c.requires.divided c.requires.division)

pub returns : goal.returns
returns g c =
    let ms = c.args.mask.now in
    let xs = g.V.Words.words c.args.x in
    let ys = g.V.Words.words c.args.y in
    let old = g.V.Words.words c.args.old in
    let f = op_bits c.args.op g.T.LaneElem.elem in
    c.merge.ensures
    ∙ ap (λ (r : List ℕ). sel_l ms r old) (c.divide.ensures ∙ ap (zip2 f xs) c.safe_divisors-divisors.ensures)
    ∙ stand_in_same c.args.op f ms xs ys old
