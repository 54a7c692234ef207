use Rattle.std.proofs.Common.{w32, map-id, ◌∙◌}
use Rattle.isp_lanes.proofs.Truths.{cut_is, cut_fits}
use Rattle.isp_lanes.proofs.words.SimdU32Words.cut.Goals as goal

pub overflow_cast-result : goal.overflow_cast-result
overflow_cast-result g c = cut_fits w32 g.row.N c.args.wide.now c.told-wide

pub returns : goal.returns
returns g c = map-id _ ∙ cut_is w32 g.row.N c.args.wide.now c.told-wide
