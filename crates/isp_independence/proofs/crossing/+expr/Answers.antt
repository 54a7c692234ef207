use Rattle.std.proofs.Common.{◌≤◌, length, sym, ap, ◌∙◌, refl, arith, drop_of_length-le}
use Rattle.std.specs.Prelude.{List, not}
use Rattle.isp_typed.specs.declared.expr.TypedArgument as rust_argument
use Rattle.isp_typed.specs.declared.expr.TypedExpr as rust
use Rattle.isp_typed.specs.Typed.{t_arguments, t_exprs}
use Rattle.isp_typed.specs.Views.{argument_of, arguments_of, expr_of, exprs_of}
use Rattle.isp_independence.specs.declared.dependence.Restriction.TheVariants.{Crossing}
use Rattle.isp_independence.specs.Crossing.{looks_across}
use Rattle.isp_independence.specs.Dependences.{at}
use Rattle.isp_independence.specs.reader.Answers.{argument_answer, arguments_answer, call_answer, expr_answer, first_of, unless, values_answer}
use Rattle.isp_independence.proofs.Order.{first_none}
use Rattle.isp_independence.proofs.Steps.{each_step}
use Rattle.isp_independence.proofs.Views.{call_view, library_view}
use Rattle.isp_independence.proofs.crossing.+expr.Goals as goal

pub call-loop-given-preserved : goal.call-loop-given-preserved
call-loop-given-preserved t c =
    rw (c.first-seen.ensures, c.argument.ensures)
    (each_step (λ (xs : List rust_argument.TypedArgument). arguments_answer (t_arguments (arguments_of xs)))
    (λ (x : rust_argument.TypedArgument). argument_answer (argument_of x)) (λ x xs. refl)
    c.deref-given-items.result.now c.loop-given.given-index c.given-item.result c.loop-given.seen _ c.loop-given-test.true c.given-item.is c.loop-given.invariant)

pub call-returns : goal.call-returns
call-returns t c =
    let over : length c.deref-given-items.result.now ≤ c.loop-given.given-index = omega arith in
    let j = rw (drop_of_length-le c.deref-given-items.result.now over) at c.loop-given.invariant in
    sym (first_none c.loop-given.seen) ∙ j ∙ (rw (c.deref-given-items.ensures.value) (sym (ap call_answer (call_view c.args.x.now))))

pub expr-loop-value-preserved : goal.expr-loop-value-preserved
expr-loop-value-preserved t c =
    rw (c.first-seen.ensures, c.expr-in-loop-value.ensures)
    (each_step (λ (xs : List rust.TypedExpr). values_answer (t_exprs (exprs_of xs)))
    (λ (x : rust.TypedExpr). expr_answer (expr_of x)) (λ x xs. refl)
    c.deref-value-items.result.now c.loop-value.value-index c.value-item.result c.loop-value.seen _ c.loop-value-test.true c.value-item.is c.loop-value.invariant)

pub expr-returns-after-loop-value : goal.expr-returns-after-loop-value
expr-returns-after-loop-value t c =
    let f = c.in-Library.function in
    let over : length c.deref-value-items.result.now ≤ c.loop-value.value-index = omega arith in
    let j = rw (drop_of_length-le c.deref-value-items.result.now over) at c.loop-value.invariant in
    let seen = sym (first_none c.loop-value.seen) ∙ j in
    c.first-in-Library.ensures
    ∙ (ap (λ z. first_of z c.loop-value.seen) (rw (c.unless.ensures, c.looks_across.ensures) refl)
    ∙ (ap (first_of (unless (not (looks_across f)) (at Crossing c.in-Library.span))) seen
    ∙ (rw (c.deref-value-items.ensures.value, c.in-Library.is) (sym (ap expr_answer (library_view f c.in-Library.elem c.in-Library.values c.in-Library.ty c.in-Library.span))))))
