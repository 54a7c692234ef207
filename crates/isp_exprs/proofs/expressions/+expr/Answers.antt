use Rattle.std.proofs.Common.{◌≡◌, IfOk, List, true, refl, rules, sym, ap, subst, ◌∙◌}
use Rattle.std.specs.Prelude.{Result}
use Rattle.isp_lex.specs.declared.fault.Fault.{Fault}
use Rattle.isp_tree.specs.declared.expr.Expr.TheVariants as variant
use Rattle.isp_tree.specs.declared.expr.Place as rust_place
use Rattle.isp_tree.specs.declared.expr.Place.TheVariants as place_variant
use Rattle.isp_tree.specs.declared.expr.Argument as rust_argument
use Rattle.isp_tree.specs.declared.expr.Argument.TheVariants as argument_variant
use Rattle.isp_tree.specs.Tree.{Expr, place, Place, Argument}
use Rattle.isp_tree.specs.Tree.{listed, span_of_argument}
use Rattle.isp_tree.specs.Views.{argument_of, arguments_of, expr_of}
use Rattle.isp_typed.specs.Typed.{TExpr}
use Rattle.isp_typed.specs.Verdicts.{both, found, made}
use Rattle.isp_exprs.specs.declared.callee.Want.{Want}
use Rattle.isp_exprs.specs.declared.scope.Known.{Known}
use Rattle.isp_exprs.specs.Passing.{h_value, Called, handed_call, handed_element, value_called}
use Rattle.isp_exprs.specs.Calls.{first_want, suits}
use Rattle.isp_exprs.specs.Rules.{expr_typing, argument_typing, arguments_typing, call_of_typing}
use Rattle.isp_exprs.specs.Scopes.{named}
use Rattle.isp_exprs.specs.reader.Parts.{boxed_of, called_of, list_passed, passed_of}
use Rattle.isp_exprs.proofs.ExprViews.{number_view, truth_view, index_view, count_view, brackets_view, cast_view, prefix_view, binary_view, choose_view}
use Rattle.isp_exprs.proofs.ExprViews.{value_view, place_view, element_view, call_view, called_view, named_element_view}
use Rattle.isp_exprs.proofs.Gathered.{before_new, beside_next}
use Rattle.isp_exprs.proofs.Judged.{call_is, suits_is, is_plain, plain_is}
use Rattle.isp_exprs.proofs.expressions.+expr.Goals as goal

pub arguments-loop-place-init : goal.arguments-loop-place-init
arguments-loop-place-init t c = before_new passed_of _ _ c.new.ensures.items

pub arguments-loop-place-preserved : goal.arguments-loop-place-preserved
arguments-loop-place-preserved t c =
    let gang = c.args.setting.now.gang in
    let hs = c.args.setting.now.headers.now in
    let ns = c.args.scope.now in
    beside_next (λ (ws : List Want) (xs : List rust_argument.Argument). (arguments_typing gang hs ns (listed (arguments_of xs)) c.args.past ws).verdict)
    (λ (ws : List Want) (x : rust_argument.Argument). found (suits (first_want c.args.past ws) (span_of_argument (argument_of x))) (argument_typing gang hs ns (argument_of x)).verdict) (λ ws x xs. refl)
    c.args.wants.now c.args.all.now c.loop-place.place c.index-all-place.result (made (λ v. list_passed v.items) c.loop-place.done) _ _ _
    c.in_ok-done.ensures (c.in_ok-passed.ensures ∙ suits_is _ _ _ _ _ _ c.want_at.ensures c.span.ensures c.in_ok-handed.ensures)
    c.loop-place-test.true c.index-all-place.is c.loop-place.invariant

pub call-returns : goal.call-returns
call-returns t c =
    subst (λ (z : Result Called Fault). IfOk c.call_of.result (λ v. made called_of v ≡ z))
    (call_is c.args.setting.now.gang c.args.setting.now.headers.now c.args.scope.now c.args.function.now c.args.all.now c.args.span
    c.called-callee.result.0 _ c.called-callee.result.1.now _ _ c.called-callee.ensures c.asked_past.ensures c.in_ok-passed.ensures c.unless_unknown.ensures) c.call_of.ensures

pub argument-returns-in_ok-called-in-Call : goal.argument-returns-in_ok-called-in-Call
argument-returns-in_ok-called-in-Call t c =
    let gang = c.args.setting.now.gang in
    let hs = c.args.setting.now.headers.now in
    let ns = c.args.scope.now in
    let w = c.in-Call in
    let read = ap argument_of (c.in-Value.is ∙ ap argument_variant.Value w.is) ∙ called_view w.function w.arguments w.span in
    let called = c.in_ok-called-in-Call.ensures ∙ ap (λ (xs : List rust_argument.Argument). (call_of_typing gang hs ns w.function (listed (arguments_of xs)) w.span).verdict) c.deref.ensures.value in
    c.handed_call.ensures ∙ (ap (made handed_call) called ∙ sym (ap (λ (z : Argument). (argument_typing gang hs ns z).verdict) read))

pub argument-returns-in_ok-value-in-Number : goal.argument-returns-in_ok-value-in-Number
argument-returns-in_ok-value-in-Number t c =
    let gang = c.args.setting.now.gang in
    let hs = c.args.setting.now.headers.now in
    let ns = c.args.scope.now in
    let plain : is_plain (expr_of c.in-Value.value) ≡ true = search (rules, number_view, truth_view, index_view, count_view, brackets_view, cast_view, prefix_view, binary_view, choose_view) in
    let read = ap argument_of c.in-Value.is ∙ value_view c.in-Value.value in
    let value = ap (made h_value) c.in_ok-value-in-Number.ensures ∙ sym (plain_is gang hs ns _ plain) in
    c.handed_value-in-Number.ensures ∙ (value ∙ sym (ap (λ (z : Argument). (argument_typing gang hs ns z).verdict) read))

pub argument-returns-in_ok-value-in-Element : goal.argument-returns-in_ok-value-in-Element
argument-returns-in_ok-value-in-Element t c =
    let gang = c.args.setting.now.gang in
    let hs = c.args.setting.now.headers.now in
    let ns = c.args.scope.now in
    let w = c.in-Element in
    let seen = ap expr_of (c.in-Place.is ∙ ap variant.Place w.is) ∙ place_view _ ∙ ap (λ (p : Place). place p) (element_view w.array w.index w.span) in
    let read = ap argument_of c.in-Value.is ∙ value_view c.in-Value.value in
    let value = ap (made h_value) c.in_ok-value-in-Element.ensures ∙ sym (plain_is gang hs ns _ (ap is_plain seen)) in
    c.handed_value.ensures ∙ (value ∙ sym (ap (λ (z : Argument). (argument_typing gang hs ns z).verdict) read))

pub argument-returns-in_ok-index-in-Reference-Element-default : goal.argument-returns-in_ok-index-in-Reference-Element-default
argument-returns-in_ok-index-in-Reference-Element-default t c =
    let gang = c.args.setting.now.gang in
    let hs = c.args.setting.now.headers.now in
    let ns = c.args.scope.now in
    let w = c.in-Reference-Element-default in
    let index = made boxed_of c.in_ok-index-in-Reference-Element-default.index in
    let one : w.place ≡ place_variant.Element w.array w.index w.place-2 = rw w.is at w.place-is in
    let read = ap argument_of (w.is ∙ ap (λ (p : rust_place.Place). argument_variant.Reference p w.span) one) ∙ named_element_view w.array w.index w.place-2 w.span in
    let known = ap (λ (z : Result Known Fault). made (handed_element w.array.span) (both z index)) c.named-in-Reference-Element-default.ensures in
    let at = rw c.deref-in-Reference-Element-default.ensures at c.in_ok-index-in-Reference-Element-default.ensures in
    let parts = ap (λ (z : Result TExpr Fault). made (handed_element w.array.span) (both (named ns w.array) z)) at in
    c.handed_element.ensures ∙ (known ∙ (parts ∙ sym (ap (λ (z : Argument). (argument_typing gang hs ns z).verdict) read)))

pub expr-returns-in_ok-called-in-Call : goal.expr-returns-in_ok-called-in-Call
expr-returns-in_ok-called-in-Call t c =
    let gang = c.args.setting.now.gang in
    let hs = c.args.setting.now.headers.now in
    let ns = c.args.scope.now in
    let w = c.in-Call in
    let read = ap expr_of w.is ∙ call_view w.function w.arguments w.span in
    let called = c.in_ok-called-in-Call.ensures ∙ ap (λ (xs : List rust_argument.Argument). (call_of_typing gang hs ns w.function (listed (arguments_of xs)) w.span).verdict) c.deref.ensures.value in
    c.value_called.ensures ∙ (ap (found (value_called w.span)) called ∙ sym (ap (λ (z : Expr). (expr_typing gang hs ns z).verdict) read))
