use Rattle.std.proofs.Common.{w32, ◌^◌, ◌-◌}
use Rattle.isp_lanes.proofs.Truths.{sign_truths}
use Rattle.isp_lanes.proofs.words.SimdU32Words.signs.Goals as goal

pub returns : goal.returns
returns g c = sign_truths w32 (2 ^ 31 - 1) g.row.N c.args.self c.fits-self.0
