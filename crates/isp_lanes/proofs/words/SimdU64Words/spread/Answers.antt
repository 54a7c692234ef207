use Rattle.std.proofs.Common.{◌^◌}
use Rattle.isp_lanes.proofs.Truths.{spread_of}
use Rattle.isp_lanes.proofs.words.SimdU64Words.spread.Goals as goal

pub returns : goal.returns
returns g c = spread_of (2 ^ 63) g.row.N c.args.self c.fits-self.0
