use Rattle.std.proofs.Common.{refl}
use Rattle.std.specs.Prelude.{List}
use Rattle.isp_typed.specs.declared.expr.TypedExpr as rust
use Rattle.isp_typed.specs.Views.{expr_of, exprs_of}
use Rattle.isp_independence.specs.reader.Answers.{expr_answer, of_each}
use Rattle.isp_independence.proofs.Steps.{each_step}
use Rattle.isp_independence.proofs.simple.values.Goals as goal

pub loop-value-preserved : goal.loop-value-preserved
loop-value-preserved c =
    rw (c.first-seen.ensures, c.expr.ensures)
    (each_step (λ (xs : List rust.TypedExpr). of_each expr_answer (exprs_of xs)) (λ (x : rust.TypedExpr). expr_answer (expr_of x)) (λ x xs. refl)
    c.args.all.now c.loop-value.value-index c.value-item.result c.loop-value.seen _ c.loop-value-test.true c.value-item.is c.loop-value.invariant)
