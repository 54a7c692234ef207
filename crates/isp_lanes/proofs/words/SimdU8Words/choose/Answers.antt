use Rattle.std.proofs.Common.{w8, ap, List, Bool}
use Rattle.std.specs.Simd.Lanes.{sel_l}
use Rattle.isp_lanes.proofs.Truths.{truth_of}
use Rattle.isp_lanes.proofs.words.SimdU8Words.choose.Goals as goal

pub returns : goal.returns
returns g c = ap (λ (m : List Bool). sel_l m c.args.x c.args.y) (truth_of w8 g.row.N c.args.self c.fits-self.0)
