use Rattle.isp_lower_code.proofs.Fitting.{simple_parts}
use Rattle.isp_lower_code.proofs.Updates.{simple_runs}
use Rattle.isp_lower_code.proofs.laws.assignments_run.Goals as goal

pub returns : goal.returns
returns c = λ w ready x pc p k n q a s c fit has places b. simple_runs w ready x pc p k n q a s c (simple_parts w ready x n fit) has places b
