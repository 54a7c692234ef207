use Rattle.std.proofs.Common.{◌^◌}
use Rattle.isp_lanes.proofs.Truths.{cast_spread_of}
use Rattle.isp_lanes.proofs.words.SimdU16Words.spread.Goals as goal

pub returns : goal.returns
returns g c = cast_spread_of (2 ^ 15) g.row.N c.args.self c.fits-self.0
