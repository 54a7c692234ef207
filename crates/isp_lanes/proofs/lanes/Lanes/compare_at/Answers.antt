use Rattle.std.proofs.Common.{sym, ◌∙◌, rules}
use Rattle.isp_lanes.proofs.ListedRows.{elem_at, row_as}
use Rattle.isp_lanes.proofs.Fits.{compare_fits}
use Rattle.isp_lanes.proofs.lanes.Lanes.compare_at.Goals as goal

pub blend-requires : goal.blend-requires
blend-requires g c =
    let same = sym (elem_at c.args.vectors.now c.args.out _ _ c.requires.out ∙ c.requires.truth) in
    (search rules, (search rules, row_as g.row.N 8 same c.compared-holds.ensures (search rules) (search rules) (compare_fits c.args.compare _ _ _)))
