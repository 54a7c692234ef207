use Rattle.std.proofs.Common.{◌∙◌}
use Rattle.isp_base.specs.Sets.{flag_of}
use Rattle.isp_frames.proofs.MaskViews.{first_at, first_low}
use Rattle.isp_frames.proofs.kernels.first_lane.Goals as goal

pub returns-clause-value : goal.returns-clause-value
returns-clause-value g c = c.first.ensures ∙ first_at g.row.N c.args.mask.now c.told.ensures.long

pub returns-clause-low : goal.returns-clause-low
returns-clause-low g c = first_low g.row.N (flag_of c.args.mask.now) c.first.result c.told.ensures.wide (c.first.ensures ∙ first_at g.row.N c.args.mask.now c.told.ensures.long)
