use Rattle.std.proofs.Common.{◌+◌, arith}
use Rattle.isp_lower_code.proofs.Exprs.{expr_runs}
use Rattle.isp_lower_code.proofs.Fitting.{expr_parts}
use Rattle.isp_lower_code.proofs.Found.{few}
use Rattle.isp_lower_code.proofs.laws.expressions_run.Goals as goal

pub returns : goal.returns
returns c = λ w ready x pc p k n q a s c fit has places b.
    let parts = expr_parts w x n fit in
    expr_runs w ready x pc p k n q (4 + q) a s c parts has places (omega (arith, few w x n parts)) b
