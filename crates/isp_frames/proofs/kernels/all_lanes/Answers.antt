use Rattle.std.proofs.Common.{◌∙◌}
use Rattle.isp_frames.proofs.MaskViews.{all_at}
use Rattle.isp_frames.proofs.kernels.all_lanes.Goals as goal

pub returns : goal.returns
returns g c = c.all.ensures ∙ all_at g.row.N c.args.mask.now c.told.ensures.long
