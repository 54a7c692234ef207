use Rattle.std.proofs.Common.{refl}
use Rattle.std.specs.Prelude.{List}
use Rattle.isp_typed.specs.declared.expr.TypedArgument as rust_argument
use Rattle.isp_typed.specs.declared.expr.TypedExpr as rust
use Rattle.isp_typed.specs.declared.library.Part.{Part}
use Rattle.isp_typed.specs.declared.variable.Variable.{Variable}
use Rattle.isp_typed.specs.Typed.{t_arguments, t_exprs}
use Rattle.isp_typed.specs.Views.{argument_of, arguments_of, expr_of, exprs_of, functions_of}
use Rattle.isp_rates.specs.Rates.{next_part, next_rate}
use Rattle.isp_breaches.specs.reader.Lists.{argument_faults, arguments_faults, demand_faults, values_faults}
use Rattle.isp_breaches.proofs.Steps.{beside_step}
use Rattle.isp_breaches.proofs.expr.+expr.Goals as goal

pub call-loop-place-preserved : goal.call-loop-place-preserved
call-loop-place-preserved t c =
    let fs = functions_of c.args.functions.now in
    beside_step (λ (vs : List Variable) (xs : List rust_argument.TypedArgument). arguments_faults fs vs (t_arguments (arguments_of xs)))
    (λ (vs : List Variable) (x : rust_argument.TypedArgument). argument_faults fs (next_rate vs) (argument_of x)) (λ vs x xs. refl)
    c.variables-parameters.result.now c.deref-given-items.result.now c.loop-place.place c.given-item.result c.loop-place.found.items _ _ c.loop-place-test.true c.given-item.is
    (rw (← c.parameter_rate.ensures) c.in_ok-argument.ensures) c.loop-place.invariant

pub expr-loop-place-preserved : goal.expr-loop-place-preserved
expr-loop-place-preserved t c =
    let fs = functions_of c.args.functions.now in
    beside_step (λ (ps : List Part) (xs : List rust.TypedExpr). values_faults fs ps (t_exprs (exprs_of xs)))
    (λ (ps : List Part) (x : rust.TypedExpr). demand_faults fs (next_part ps) (expr_of x)) (λ ps x xs. refl)
    c.parts-parts.result.now c.deref-value-items.result.now c.loop-place.place c.value-item.result c.loop-place.found.items _ _ c.loop-place-test.true c.value-item.is
    (rw (← c.value_rate.ensures) c.in_ok-demanded-in-Library.ensures) c.loop-place.invariant
