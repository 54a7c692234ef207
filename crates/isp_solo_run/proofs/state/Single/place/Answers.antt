use Rattle.isp_solo_run.specs.Tasks.{FindsValue}
use Rattle.std.proofs.Common.{subst}
use Rattle.std.proofs.Common.{sym, ap, ◌∙◌}
use Rattle.isp_typed.specs.Typed.{TExpr, TPlace, TBase, TArgument, TCall, t_element, t_place, type_of}
use Rattle.isp_typed.specs.Views.{argument_step, base_step, expr_step, place_step, call_step, expr_of, place_of}
use Rattle.isp_typed.specs.declared.expr.TypedPlace.TheVariants as variant
use Rattle.isp_typed.specs.declared.expr.TypedArgument.TheFolds.{fold-roll-TypedPlace}
use Rattle.isp_solo_run.specs.Tasks.{finds, store_seen}
use Rattle.isp_solo_run.proofs.Steps.{tells_by}
use Rattle.isp_solo_run.proofs.Writes.{place_node}
use Rattle.isp_solo_run.proofs.state.Single.place.Goals as goal

pub returns-in-Variable : goal.returns-in-Variable
returns-in-Variable c =
    subst (λ q. FindsValue c.load.result c.args.self.now c.load.new.self (t_place q))
    (sym (ap place_of (c.in-Variable.is ∙ sym (variant.rolls-Variable c.in-Variable.number c.in-Variable.ty c.in-Variable.span))
    ∙ fold-roll-TypedPlace TArgument TBase TExpr TPlace TCall argument_step base_step expr_step place_step call_step _)) c.load.ensures

pub returns-in-Element : goal.returns-in-Element
returns-in-Element c =
    subst (λ q. FindsValue c.both.result c.args.self.now c.both.new.self (t_place q))
    (sym (ap place_of (c.in-Element.is ∙ sym (variant.rolls-Element c.in-Element.array c.in-Element.index c.in-Element.ty c.in-Element.span))
    ∙ fold-roll-TypedPlace TArgument TBase TExpr TPlace TCall argument_step base_step expr_step place_step call_step _
    ∙ ap (λ i. t_element c.in-Element.array (expr_of i) c.in-Element.ty c.in-Element.span) (sym c.deref-in-Element.ensures)))
    (tells_by _ c.both.result c.args.self.now c.both.new.self _ _ (place_node c.args.self.now (store_seen c.args.self.now) c.in-Element.array c.deref-in-Element.result c.ty.result.elem c.in-Element.ty
    c.in-Element.span (ap (λ t. t.elem) c.ty.ensures ∙ ap (λ l. (type_of (expr_of l)).elem) (c.deref.ensures ∙ sym c.deref-in-Element.ensures))) c.both.ensures)
