use Rattle.isp_lanes.proofs.Halves.{rises_in, words_fit, factors_fit, moved_in, halves_fit, shifted}
use Rattle.isp_lanes.proofs.words.SimdU32Words.right.Goals as goal

pub overflow_shl-factors : goal.overflow_shl-factors
overflow_shl-factors g c = rises_in g.row.N c.args.self c.args.by c.fits-by.0 c.fits-self.0 c.requires

pub overflow_cast-products : goal.overflow_cast-products
overflow_cast-products g c = words_fit c.args.self c.fits-self.1

pub overflow_cast-products-2 : goal.overflow_cast-products-2
overflow_cast-products-2 g c = factors_fit g.row.N c.args.by

pub overflow_shr-halves : goal.overflow_shr-halves
overflow_shr-halves g c = moved_in g.row.N _

pub overflow_cast-halves : goal.overflow_cast-halves
overflow_cast-halves g c = halves_fit g.row.N c.args.self c.args.by

pub returns : goal.returns
returns g c = shifted g.row.N c.args.self c.args.by c.fits-self.0 c.fits-by.0 c.fits-self.1 c.requires
