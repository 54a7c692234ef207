use Rattle.isp_lower_code.proofs.Fitting.{items_parts}
use Rattle.isp_lower_code.proofs.Items.{items_run}
use Rattle.isp_lower_code.proofs.laws.declarations_run.Goals as goal

pub returns : goal.returns
returns c = λ w ready xs pc p k n q a s c fit has places b. items_run w ready xs pc p k n q a s c (items_parts w xs n fit) has places b
