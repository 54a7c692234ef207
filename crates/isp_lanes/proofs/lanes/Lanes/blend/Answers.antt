use Rattle.std.proofs.Common.{refl, rules}
use Rattle.isp_lanes.proofs.ListedRows.{row_under}
use Rattle.isp_lanes.proofs.lanes.Lanes.blend.Goals as goal

pub take-requires : goal.take-requires
take-requires g c =
    (search rules, row_under g.row.N g.V.Words.width _ _ c.args.mask.now (g.V.Words.words c.args.new) (g.V.Words.words c.words_as-old.result) _ refl c.merge.ensures c.told.ensures.long c.requires.long c.requires.fits c.words_as-old.ensures.row)
