use Rattle.std.proofs.Common.{w16, ◌^◌, ◌-◌}
use Rattle.isp_lanes.proofs.Truths.{sign_truths}
use Rattle.isp_lanes.proofs.words.SimdU16Words.signs.Goals as goal

pub returns : goal.returns
returns g c = sign_truths w16 (2 ^ 15 - 1) g.row.N c.args.self c.fits-self.0
