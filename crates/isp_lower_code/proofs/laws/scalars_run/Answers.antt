use Rattle.isp_lower_code.proofs.Scalar.{scalar_runs}
use Rattle.isp_lower_code.proofs.laws.scalars_run.Goals as goal

pub returns : goal.returns
returns c = λ w ready none nothing known scalars x pc p k n q a s c fine is vary named has places are hold b.
    scalar_runs w known ready none nothing scalars x pc p k n q a s c fine is vary named has places are hold b
