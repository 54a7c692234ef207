use Rattle.std.proofs.Common.{◌≡◌, IfOk, List, sym, ap, subst, ◌∙◌}
use Rattle.std.specs.Prelude.{Result}
use Rattle.isp_lex.specs.declared.fault.Fault.{Fault}
use Rattle.isp_tree.specs.declared.expr.Argument as rust_argument
use Rattle.isp_tree.specs.Tree.{Expr, value, listed}
use Rattle.isp_tree.specs.Views.{arguments_of, expr_of}
use Rattle.isp_typed.specs.Typed.{TSimple}
use Rattle.isp_typed.specs.Verdicts.{made}
use Rattle.isp_exprs.specs.Rules.{call_of_typing}
use Rattle.isp_types.specs.Simple.{stated, simple_typing}
use Rattle.isp_types.specs.reader.Boxes.{boxed_simple}
use Rattle.isp_types.proofs.ExprTrees.{call_view}
use Rattle.isp_types.proofs.simple.expression.Goals as goal

pub returns-in_ok-called-in-Call : goal.returns-in_ok-called-in-Call
returns-in_ok-called-in-Call c =
    let gang = c.args.setting.now.gang in
    let hs = c.args.setting.now.headers.now in
    let ns = c.args.scope.now in
    let w = c.in-Call in
    let read = ap expr_of w.is ∙ call_view w.function w.arguments w.span in
    let called = c.in_ok-called-in-Call.ensures ∙ ap (λ (xs : List rust_argument.Argument). (call_of_typing gang hs ns w.function (listed (arguments_of xs)) w.span).verdict) c.deref.ensures.value in
    subst (λ (z : Result TSimple Fault). IfOk c.stated.result (λ v. made boxed_simple v ≡ z))
    (ap (made stated) called ∙ sym (ap (λ (z : Expr). (simple_typing gang hs ns (value z)).verdict) read)) c.stated.ensures
