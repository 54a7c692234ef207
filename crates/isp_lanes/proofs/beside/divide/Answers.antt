use Rattle.std.proofs.Common.{◌∙◌, rules}
use Rattle.std.specs.Simd.Lanes.{zip2}
use Rattle.isp_base.specs.Values.{op_bits}
use Rattle.isp_lanes.proofs.ListedRows.{elem_at, row_under}
use Rattle.isp_lanes.proofs.Rows.{length_zip2}
use Rattle.isp_lanes.proofs.Fits.{op_fits, fits_as}
use Rattle.isp_lanes.proofs.beside.divide.Goals as goal

pub take-requires : goal.take-requires
take-requires g c =
    let n = g.row.N in
    let out = c.args.out in
    let vs = c.args.vectors.now in
    let t = g.T.LaneElem.elem in
    let xs = g.V.Words.words c.words_as-x.result in
    let ys = g.V.Words.words c.words_as-y.result in
    let old = g.V.Words.words c.words_as-old.result in
    let new = zip2 (op_bits c.args.op t) xs ys in (
      search rules,
      row_under n g.V.Words.width _ _ c.args.mask.now new old _ (elem_at vs out _ _ c.requires.x.first)
          c.divide.ensures c.told.ensures.long
          (length_zip2 _ xs ys n c.words_as-x.ensures.row.long c.words_as-y.ensures.row.long)
          (fits_as (elem_at vs out _ _ c.requires.x.first ∙ c.requires.is) (λ _. new) (op_fits c.args.op t xs ys)) c.words_as-old.ensures.row,
    )
