use Rattle.std.proofs.Common.{w16, nat_lt}
use Rattle.isp_lanes.proofs.Truths.{truths}
use Rattle.isp_lanes.proofs.words.SimdU16Words.less.Goals as goal

pub returns : goal.returns
returns g c = truths w16 (λ a b. nat_lt a b) g.row.N c.args.self c.args.y c.fits-self.0 c.fits-y.0
