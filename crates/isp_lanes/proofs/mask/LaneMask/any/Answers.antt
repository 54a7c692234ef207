use Rattle.std.proofs.Common.{sym, ap, ◌∙◌, not, ◌==◌}
use Rattle.isp_lanes.proofs.MaskLanes.{any_bits}
use Rattle.isp_lanes.proofs.mask.LaneMask.any.Goals as goal

pub returns : goal.returns
returns g c = ap (λ n. not (n == 0)) c.bits.ensures ∙ sym (any_bits c.args.self.now)
