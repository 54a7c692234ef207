use Rattle.std.proofs.Common.{refl}
use Rattle.std.specs.Prelude.{List}
use Rattle.isp_typed.specs.declared.expr.TypedExpr as rust
use Rattle.isp_typed.specs.Views.{expr_of, exprs_of, functions_of}
use Rattle.isp_rates.specs.reader.Faults.{expr_fault, of_each}
use Rattle.isp_rates.proofs.Steps.{each_step}
use Rattle.isp_rates.proofs.simple.values.Goals as goal

pub loop-value-preserved : goal.loop-value-preserved
loop-value-preserved c =
    let fs = functions_of c.args.functions.now in
    rw (c.first-seen.ensures, c.expr.ensures)
    (each_step (λ (xs : List rust.TypedExpr). of_each (expr_fault fs) (exprs_of xs)) (λ (x : rust.TypedExpr). expr_fault fs (expr_of x)) (λ x xs. refl)
    c.args.all.now c.loop-value.value-index c.value-item.result c.loop-value.seen _ c.loop-value-test.true c.value-item.is c.loop-value.invariant)
