use Rattle.isp_type_laws.proofs.Runs.{result_fits}
use Rattle.isp_type_laws.proofs.laws.result_fits.Goals as goal

pub returns : goal.returns
returns c = result_fits
