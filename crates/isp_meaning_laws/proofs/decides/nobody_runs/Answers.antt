use Rattle.isp_meaning_laws.proofs.Decided.{nobody_runs}
use Rattle.isp_meaning_laws.proofs.decides.nobody_runs.Goals as goal

pub returns : goal.returns
returns c = nobody_runs
