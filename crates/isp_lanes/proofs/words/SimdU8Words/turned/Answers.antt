use Rattle.std.proofs.Common.{◌+◌, ◌%◌, ◌^◌}
use Rattle.std.proofs.lemmas.Simd.{zip2_splat}
use Rattle.isp_lanes.proofs.words.SimdU8Words.turned.Goals as goal

pub returns : goal.returns
returns g c = zip2_splat (λ a b. (a + b) % 2 ^ 8) c.args.self g.row.N (2 ^ 7) c.fits-self.0
