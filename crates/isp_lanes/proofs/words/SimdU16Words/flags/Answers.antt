use Rattle.std.proofs.Common.{w16, map-id, ◌∙◌}
use Rattle.isp_lanes.proofs.Truths.{flags_of, flags_fit}
use Rattle.isp_lanes.proofs.words.SimdU16Words.flags.Goals as goal

pub overflow_cast-result : goal.overflow_cast-result
overflow_cast-result g c = flags_fit w16 g.row.N c.args.self c.fits-self.0

pub returns : goal.returns
returns g c = map-id _ ∙ flags_of w16 g.row.N c.args.self c.fits-self.0
