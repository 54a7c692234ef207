use Rattle.std.proofs.Common.{ap, ◌∙◌, set}
use Rattle.isp_lanes.proofs.MaskLanes.{set_on}
use Rattle.isp_lanes.proofs.mask.LaneMask.set.Goals as goal

pub returns : goal.returns
returns g c = set_on c.self.inside.lanes c.args.lane c.args.on ∙ ap (λ v. set v c.args.lane c.args.on) c.self.view_is
