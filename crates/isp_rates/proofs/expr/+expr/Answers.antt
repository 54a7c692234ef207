use Rattle.std.proofs.Common.{◌≤◌, length, sym, ap, ◌∙◌, refl, arith, drop_of_length-le}
use Rattle.std.specs.Prelude.{List}
use Rattle.isp_typed.specs.declared.expr.TypedArgument as rust_argument
use Rattle.isp_typed.specs.declared.expr.TypedExpr as rust
use Rattle.isp_typed.specs.declared.library.Part.{Part}
use Rattle.isp_typed.specs.declared.variable.Variable.{Variable}
use Rattle.isp_typed.specs.Typed.{t_arguments, t_exprs}
use Rattle.isp_typed.specs.Views.{argument_of, arguments_of, expr_of, exprs_of, functions_of}
use Rattle.isp_rates.specs.Rates.{next_part, next_rate}
use Rattle.isp_rates.specs.reader.Faults.{argument_fault, arguments_fault, call_fault, demand, expr_fault, values_fault}
use Rattle.isp_typed.proofs.Order.{first_none}
use Rattle.isp_rates.proofs.Steps.{beside_step}
use Rattle.isp_rates.proofs.Views.{call_view, library_view}
use Rattle.isp_rates.proofs.expr.+expr.Goals as goal

pub call-loop-place-preserved : goal.call-loop-place-preserved
call-loop-place-preserved t c =
    let fs = functions_of c.args.functions.now in
    rw (c.first-seen.ensures, c.argument.ensures, c.parameter_rate-wanted.ensures)
    (beside_step (λ (vs : List Variable) (xs : List rust_argument.TypedArgument). arguments_fault fs vs (t_arguments (arguments_of xs)))
    (λ (vs : List Variable) (x : rust_argument.TypedArgument). argument_fault fs (next_rate vs) (argument_of x)) (λ vs x xs. refl)
    c.variables-parameters.result.now c.deref-given-items.result.now c.loop-place.place c.given-item.result c.loop-place.seen _ c.loop-place-test.true c.given-item.is c.loop-place.invariant)

pub call-returns : goal.call-returns
call-returns t c =
    let fs = functions_of c.args.functions.now in
    let over : length c.deref-given-items.result.now ≤ c.loop-place.place = omega arith in
    let j = rw (drop_of_length-le c.deref-given-items.result.now over) at c.loop-place.invariant in
    sym (first_none c.loop-place.seen) ∙ j ∙ (rw (c.deref-given-items.ensures.value, c.variables-parameters.ensures) (sym (ap (call_fault fs) (call_view c.args.x.now))))

pub expr-loop-place-preserved : goal.expr-loop-place-preserved
expr-loop-place-preserved t c =
    let fs = functions_of c.args.functions.now in
    rw (c.first-seen.ensures, c.demand-in-loop-place.ensures, c.value_rate.ensures, c.expr-inner.ensures)
    (beside_step (λ (ps : List Part) (xs : List rust.TypedExpr). values_fault fs ps (t_exprs (exprs_of xs)))
    (λ (ps : List Part) (x : rust.TypedExpr). demand (next_part ps) (expr_of x) (expr_fault fs (expr_of x))) (λ ps x xs. refl)
    c.parts-parts.result.now c.deref-value-items.result.now c.loop-place.place c.value-item.result c.loop-place.seen _ c.loop-place-test.true c.value-item.is c.loop-place.invariant)

pub expr-returns-after-loop-place : goal.expr-returns-after-loop-place
expr-returns-after-loop-place t c =
    let fs = functions_of c.args.functions.now in
    let over : length c.deref-value-items.result.now ≤ c.loop-place.place = omega arith in
    let j = rw (drop_of_length-le c.deref-value-items.result.now over) at c.loop-place.invariant in
    sym (first_none c.loop-place.seen) ∙ j ∙ (rw (c.deref-value-items.ensures.value, c.parts-parts.ensures, c.in-Library.is)
    (sym (ap (expr_fault fs) (library_view c.in-Library.function c.in-Library.elem c.in-Library.values c.in-Library.ty c.in-Library.span))))
