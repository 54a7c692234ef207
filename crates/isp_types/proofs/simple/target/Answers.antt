use Rattle.std.proofs.Common.{sym, ap, ◌∙◌}
use Rattle.std.specs.Prelude.{Result}
use Rattle.isp_lex.specs.declared.fault.Fault.{Fault}
use Rattle.isp_tree.specs.declared.expr.Expr.TheVariants as variant
use Rattle.isp_tree.specs.Tree.{Expr}
use Rattle.isp_tree.specs.Views.{expr_of}
use Rattle.isp_typed.specs.Typed.{TExpr}
use Rattle.isp_typed.specs.Verdicts.{both, found, made}
use Rattle.isp_exprs.specs.declared.scope.Known.{Known}
use Rattle.isp_exprs.specs.Places.{element_target}
use Rattle.isp_exprs.specs.Scopes.{named}
use Rattle.isp_exprs.specs.reader.Parts.{boxed_of}
use Rattle.isp_types.specs.Simple.{target_typing}
use Rattle.isp_types.proofs.ExprTrees.{element_view}
use Rattle.isp_types.proofs.simple.target.Goals as goal

pub returns-in_ok-index-in-Element : goal.returns-in_ok-index-in-Element
returns-in_ok-index-in-Element c =
    let gang = c.args.setting.now.gang in
    let hs = c.args.setting.now.headers.now in
    let ns = c.args.scope.now in
    let w = c.in-Element in
    let index = made boxed_of c.in_ok-index-in-Element.index in
    let read = ap expr_of (c.in-Place.is ∙ ap variant.Place w.is) ∙ element_view w.array w.index w.span in
    let known = ap (λ (z : Result Known Fault). found (element_target w.span) (both z index)) c.named-in-Element.ensures in
    let at = rw c.deref.ensures at c.in_ok-index-in-Element.ensures in
    let parts = ap (λ (z : Result TExpr Fault). found (element_target w.span) (both (named ns w.array) z)) at in
    c.element_target.ensures ∙ (known ∙ (parts ∙ sym (ap (λ (z : Expr). (target_typing gang hs ns z).verdict) read)))
