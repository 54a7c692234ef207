use Rattle.std.proofs.Common.{ap, ◌∙◌}
use Rattle.isp_base.specs.Maps.{lane_of}
use Rattle.isp_base.specs.Rows.{Row}
use Rattle.isp_frames.proofs.LaneViews as kernels
use Rattle.isp_frames.proofs.kernels.copied.Goals as goal

pub returns-clause-lanes : goal.returns-clause-lanes
returns-clause-lanes g c =
    ap (λ (r : Row). lane_of r.bits) c.copy.ensures
    ∙ kernels.copied g.row.N c.args.mask.now c.args.x.now.bits c.args.value.now.bits c.told-3.ensures.long c.told-2.ensures.long c.told.ensures.long
