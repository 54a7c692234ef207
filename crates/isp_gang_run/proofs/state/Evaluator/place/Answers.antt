use Rattle.isp_gang_run.specs.Due.{own, value_due}
use Rattle.isp_gang_run.proofs.Progress.{leaves_as, no_more}
use Rattle.std.proofs.Common.{sym, ap, ◌∙◌}
use Rattle.isp_typed.specs.Typed.{t_element, type_of, t_place}
use Rattle.isp_typed.specs.Typed.{TExpr, TPlace, TBase, TArgument, TCall}
use Rattle.isp_typed.specs.Views.{argument_step, base_step, expr_step, place_step, call_step, expr_of, place_of}
use Rattle.isp_typed.specs.declared.expr.TypedPlace.TheVariants as variant
use Rattle.isp_typed.specs.declared.expr.TypedArgument.TheFolds.{fold-roll-TypedPlace}
use Rattle.isp_gang_run.proofs.Leaves.{variable_node, element_node}
use Rattle.isp_gang_run.proofs.state.Evaluator.place.Goals as goal

pub returns-in-Variable-clause-ok : goal.returns-in-Variable-clause-ok
returns-in-Variable-clause-ok c =
    variable_node c.args.self.now c.tick.new.self c.tick.ensures c.held-self.result c.args.place c.args.set c.in-Variable.number c.in-Variable.ty c.in-Variable.span
    (ap place_of (c.in-Variable.is ∙ sym (variant.rolls-Variable c.in-Variable.number c.in-Variable.ty c.in-Variable.span)) ∙ fold-roll-TypedPlace TArgument TBase TExpr TPlace TCall argument_step base_step expr_step place_step call_step _)
    c.held-self.ensures

pub returns-in_ok-both-in-Element-clause-ok : goal.returns-in_ok-both-in-Element-clause-ok
returns-in_ok-both-in-Element-clause-ok c =
    element_node c.args.self.now c.both.new.self c.tick.new.self c.tick.ensures c.args.place c.deref-in-Element.result c.args.set c.in-Element.array c.ty.result.elem c.in-Element.ty c.in-Element.span
    (ap (λ t. t.elem) c.ty.ensures ∙ ap (λ l. (type_of (expr_of l)).elem) (c.deref.ensures ∙ sym c.deref-in-Element.ensures))
    (ap place_of (c.in-Element.is ∙ sym (variant.rolls-Element c.in-Element.array c.in-Element.index c.in-Element.ty c.in-Element.span))
    ∙ fold-roll-TypedPlace TArgument TBase TExpr TPlace TCall argument_step base_step expr_step place_step call_step _
    ∙ ap (λ i. t_element c.in-Element.array (expr_of i) c.in-Element.ty c.in-Element.span) (sym c.deref-in-Element.ensures))
    c.in_ok-both-in-Element.ensures.ok

pub returns-in-Variable-clause-fewer : goal.returns-in-Variable-clause-fewer
returns-in-Variable-clause-fewer c =
    no_more c.args.self.now (own c.args.self.now value_due (t_place (place_of c.args.place.now)))

pub returns-in_ok-both-in-Element-clause-fewer : goal.returns-in_ok-both-in-Element-clause-fewer
returns-in_ok-both-in-Element-clause-fewer c =
    leaves_as c.args.self.now c.both.new.self c.args.self.now.left (ap (λ (n : TPlace). own c.args.self.now value_due (t_place n))
    (ap place_of (c.in-Element.is ∙ sym (variant.rolls-Element c.in-Element.array c.in-Element.index c.in-Element.ty c.in-Element.span))
    ∙ fold-roll-TypedPlace TArgument TBase TExpr TPlace TCall argument_step base_step expr_step place_step call_step _
    ∙ ap (λ i. t_element c.in-Element.array (expr_of i) c.in-Element.ty c.in-Element.span) (sym c.deref-in-Element.ensures))) c.in_ok-both-in-Element.ensures.fewer
