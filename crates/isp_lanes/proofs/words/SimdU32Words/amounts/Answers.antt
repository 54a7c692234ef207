use Rattle.std.proofs.Common.{bit_and}
use Rattle.std.proofs.lemmas.Simd.{zip2_splat}
use Rattle.isp_lanes.proofs.words.SimdU32Words.amounts.Goals as goal

pub returns : goal.returns
returns g c = zip2_splat bit_and c.args.self g.row.N 31 c.fits-self.0
