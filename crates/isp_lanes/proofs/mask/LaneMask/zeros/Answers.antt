use Rattle.std.proofs.Common.{ap, ◌∙◌, not, ◌&&◌}
use Rattle.std.specs.Simd.Lanes.{zip2}
use Rattle.isp_lanes.proofs.MaskLanes.{off_hits}
use Rattle.isp_lanes.proofs.mask.LaneMask.zeros.Goals as goal

pub returns : goal.returns
returns g c = c.and_not.ensures ∙ ap (zip2 (λ a b. a && not b) c.args.self.now) c.nonzero.ensures ∙ off_hits c.args.self.now (g.V.Words.words c.args.words)
