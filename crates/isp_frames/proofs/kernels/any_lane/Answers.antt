use Rattle.std.proofs.Common.{◌∙◌}
use Rattle.isp_frames.proofs.MaskViews.{any_at}
use Rattle.isp_frames.proofs.kernels.any_lane.Goals as goal

pub returns : goal.returns
returns g c = c.any.ensures ∙ any_at g.row.N c.args.mask.now c.told.ensures.long
