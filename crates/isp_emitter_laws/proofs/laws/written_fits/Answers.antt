use Rattle.isp_emitter_laws.proofs.Fitting.{written_fits}
use Rattle.isp_emitter_laws.proofs.laws.written_fits.Goals as goal

pub returns : goal.returns
returns c = written_fits
