use Rattle.std.proofs.Common.{◌+◌, length, subst}
use Rattle.isp_lower_code.specs.Runs.{DoneRuns}
use Rattle.isp_lower_code.specs.Setting.{with_turns}
use Rattle.isp_lower_code.specs.Simple.{simple_code}
use Rattle.isp_lower_code.proofs.Fitting.{simple_parts}
use Rattle.isp_lower_code.proofs.GoingOn.{enters_turns, goes_on, simple_turns}
use Rattle.isp_lower_code.proofs.Updates.{simple_runs}
use Rattle.isp_lower_code.proofs.laws.assignments_go_on.Goals as goal

pub returns : goal.returns
returns c = λ w ready x pc p k n q a s c cuts fit has places b cut.
    goes_on w.code c q cuts
    (λ m.
    let v = with_turns w m in
    subst (DoneRuns v c (pc + length (simple_code w.layout x pc p k n)) n q) (cut m)
    (simple_runs v (ready m) x pc p k n q a s c (simple_parts v (ready m) x n (simple_turns w m x n fit)) has places (enters_turns w m pc k n q a s c b)))
