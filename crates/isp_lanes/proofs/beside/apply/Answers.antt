use Rattle.std.proofs.Common.{sym, ap, ◌∙◌, rules}
use Rattle.std.proofs.lemmas.List.{length-map}
use Rattle.isp_base.specs.Cells.{cell_width}
use Rattle.isp_lanes.proofs.ListedRows.{elem_at, row_as}
use Rattle.isp_lanes.proofs.Fits.{unary_fits}
use Rattle.isp_lanes.proofs.beside.apply.Goals as goal

pub blend-requires : goal.blend-requires
blend-requires g c =
    let t = g.T.LaneElem.elem in
    let xs = g.V.Words.words c.words_as-x.result in
    let same = sym c.requires.is ∙ elem_at c.args.vectors.now c.args.out _ _ c.requires.x.first in (
      search rules,
      (
        search rules,
        row_as g.row.N g.V.Words.width same c.on-new.ensures
            (c.requires.wide ∙ ap cell_width (elem_at c.args.vectors.now c.args.out _ _ c.requires.x.first)) (length-map xs _ ∙ c.words_as-x.ensures.row.long)
            (unary_fits g.K.UnaryOperator.op t xs),
      ),
    )
