use Rattle.std.proofs.Common.{◌∙◌, ap}
use Rattle.isp_base.specs.Maps.{lane_of}
use Rattle.isp_base.specs.Rows.{Row}
use Rattle.isp_frames.proofs.Begins.{zeros}
use Rattle.isp_frames.proofs.passed.zero_lanes.Goals as goal

pub returns-clause-lanes : goal.returns-clause-lanes
returns-clause-lanes g c = ap (λ (r : Row). lane_of r.bits) c.zero.ensures ∙ zeros g.row.N
