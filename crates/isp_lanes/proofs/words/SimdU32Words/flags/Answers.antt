use Rattle.std.proofs.Common.{w32, map-id, ◌∙◌}
use Rattle.isp_lanes.proofs.Truths.{flags_of, flags_fit}
use Rattle.isp_lanes.proofs.words.SimdU32Words.flags.Goals as goal

pub overflow_cast-result : goal.overflow_cast-result
overflow_cast-result g c = flags_fit w32 g.row.N c.args.self c.fits-self.0

pub returns : goal.returns
returns g c = map-id _ ∙ flags_of w32 g.row.N c.args.self c.fits-self.0
