use Rattle.std.proofs.Common.{sym, rules}
use Rattle.isp_lanes.proofs.ListedRows.{row_as}
use Rattle.isp_lanes.proofs.Fits.{compare_fits}
use Rattle.isp_lanes.proofs.lanes.Lanes.compare.Goals as goal

pub blend-requires : goal.blend-requires
blend-requires g c =
    (search rules, (search rules, row_as g.row.N 8 (sym c.requires.elem) c.compared-holds.ensures (search rules) (search rules) (compare_fits c.args.compare _ _ _)))
