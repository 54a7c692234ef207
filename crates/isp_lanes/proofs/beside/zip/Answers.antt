use Rattle.std.proofs.Common.{sym, ap, ◌∙◌, rules}
use Rattle.isp_base.specs.Cells.{cell_width}
use Rattle.isp_lanes.proofs.ListedRows.{elem_at, row_as}
use Rattle.isp_lanes.proofs.Rows.{length_zip2}
use Rattle.isp_lanes.proofs.Fits.{op_fits}
use Rattle.isp_lanes.proofs.beside.zip.Goals as goal

pub blend-requires : goal.blend-requires
blend-requires g c =
    let n = g.row.N in
    let t = g.T.LaneElem.elem in
    let xs = g.V.Words.words c.words_as-x.result in
    let ys = g.V.Words.words c.words_as-y.result in
    let same = sym c.requires.is ∙ elem_at c.args.vectors.now c.args.out _ _ c.requires.x.first in (
      search rules,
      (
        search rules,
        row_as n g.V.Words.width same c.on-new.ensures
            (c.requires.wide ∙ ap cell_width (elem_at c.args.vectors.now c.args.out _ _ c.requires.x.first))
            (length_zip2 _ xs ys n c.words_as-x.ensures.row.long c.words_as-y.ensures.row.long) (op_fits g.K.Operator.op t xs ys),
      ),
    )
