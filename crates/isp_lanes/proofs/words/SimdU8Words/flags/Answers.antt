use Rattle.std.proofs.Common.{w8}
use Rattle.isp_lanes.proofs.Truths.{flags_of}
use Rattle.isp_lanes.proofs.words.SimdU8Words.flags.Goals as goal

pub returns : goal.returns
returns g c = flags_of w8 g.row.N c.args.self c.fits-self.0
