use Rattle.std.proofs.Common.{w64, ◌^◌, ◌-◌}
use Rattle.isp_lanes.proofs.Truths.{sign_truths}
use Rattle.isp_lanes.proofs.words.SimdU64Words.signs.Goals as goal

pub returns : goal.returns
returns g c = sign_truths w64 (2 ^ 63 - 1) g.row.N c.args.self c.fits-self.0
