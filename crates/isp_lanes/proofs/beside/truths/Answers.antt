use Rattle.std.proofs.Common.{refl, sym, ap, ◌∙◌, rules}
use Rattle.std.proofs.lemmas.List.{length-map}
use Rattle.isp_base.specs.Cells.{cell_width}
use Rattle.isp_lanes.specs.Held.{held}
use Rattle.isp_lanes.proofs.ListedRows.{elem_at, row_as}
use Rattle.isp_lanes.proofs.Fits.{flags_fit}
use Rattle.isp_lanes.proofs.beside.truths.Goals as goal

pub blend-requires : goal.blend-requires
blend-requires g c =
    let xs = held c.row.result.now in
    (search rules, (search rules, row_as g.row.N 8 refl c.flags-truths.ensures (ap cell_width (sym c.requires.truth ∙ elem_at c.args.vectors.now c.args.out _ _ c.requires.out)) (length-map xs _ ∙ c.row.ensures.row.long) (flags_fit _ xs)))
