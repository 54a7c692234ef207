use Rattle.std.proofs.Common.{w64}
use Rattle.isp_lanes.proofs.Truths.{cut_is}
use Rattle.isp_lanes.proofs.words.SimdU64Words.cut.Goals as goal

pub returns : goal.returns
returns g c = cut_is w64 g.row.N c.args.wide.now c.told-wide
