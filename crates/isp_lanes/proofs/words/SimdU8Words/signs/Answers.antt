use Rattle.std.proofs.Common.{w8, ◌^◌, ◌-◌}
use Rattle.isp_lanes.proofs.Truths.{sign_truths}
use Rattle.isp_lanes.proofs.words.SimdU8Words.signs.Goals as goal

pub returns : goal.returns
returns g c = sign_truths w8 (2 ^ 7 - 1) g.row.N c.args.self c.fits-self.0
