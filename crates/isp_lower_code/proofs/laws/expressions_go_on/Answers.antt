use Rattle.std.proofs.Common.{◌+◌, arith, length, subst}
use Rattle.isp_typed.specs.Typed.{type_of}
use Rattle.isp_lower_code.specs.Code.{expr_code}
use Rattle.isp_lower_code.specs.Found.{found}
use Rattle.isp_lower_code.specs.Runs.{Runs}
use Rattle.isp_lower_code.specs.Setting.{Holds, with_turns}
use Rattle.isp_lower_code.proofs.Exprs.{expr_runs}
use Rattle.isp_lower_code.proofs.Fitting.{expr_parts}
use Rattle.isp_lower_code.proofs.Found.{few}
use Rattle.isp_lower_code.proofs.GoingOn.{enters_turns, expr_turns, goes_on}
use Rattle.isp_lower_code.proofs.laws.expressions_go_on.Goals as goal

pub returns : goal.returns
returns c = λ w ready x pc p k n q a s c cuts fit has places b cut.
    goes_on w.code c (4 + q) cuts
    (λ m.
    let v = with_turns w m in
    let parts = expr_parts v x n (expr_turns w m x n fit) in
    subst (Runs v c (pc + length (expr_code w.layout x pc p k n)) n (4 + q) (Holds (type_of x).rate a (found w.layout x n))) (cut m)
    (expr_runs v (ready m) x pc p k n q (4 + q) a s c parts has places (omega (arith, few v x n parts)) (enters_turns w m pc k n q a s c b)))
