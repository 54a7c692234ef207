use Rattle.isp_solo_run.specs.Due.{target_due}
use Rattle.isp_solo_run.specs.Tasks.{Tells, targets}
use Rattle.std.proofs.Common.{subst}
use Rattle.std.proofs.Common.{sym, ap, ◌∙◌}
use Rattle.isp_typed.specs.Typed.{TExpr, TPlace, TBase, TArgument, TCall, t_element, type_of}
use Rattle.isp_typed.specs.Views.{argument_step, base_step, expr_step, place_step, call_step, expr_of, place_of}
use Rattle.isp_typed.specs.declared.expr.TypedPlace.TheVariants as variant
use Rattle.isp_typed.specs.declared.expr.TypedArgument.TheFolds.{fold-roll-TypedPlace}
use Rattle.isp_solo_meaning.specs.Answers.{and_then}
use Rattle.isp_solo_meaning.specs.Values.{spot}
use Rattle.isp_solo_run.specs.Tasks.{bound_in, calls_in, done, store_seen, write}
use Rattle.isp_solo_run.proofs.Steps.{tells_by}
use Rattle.isp_solo_run.proofs.Writes.{target_node}
use Rattle.isp_solo_run.proofs.state.Single.target.Goals as goal

pub returns-in-Variable : goal.returns-in-Variable
returns-in-Variable c =
    let is = ap place_of (c.in-Variable.is ∙ sym (variant.rolls-Variable c.in-Variable.number c.in-Variable.ty c.in-Variable.span)) ∙ fold-roll-TypedPlace TArgument TBase TExpr TPlace TCall argument_step base_step expr_step place_step call_step _ in
    subst (λ n. Tells c.placed.result c.args.self.now c.placed.new.self (targets c.args.self.now c.args.writing (place_of c.args.target.now)) n) (sym (ap (target_due c.args.self.now.setting c.args.self.now.left c.args.writing) is))
    (tells_by _ c.placed.result c.args.self.now c.placed.new.self _ _
    (ap (λ k. done (store_seen c.args.self.now) (and_then (spot (bound_in c.args.self.now.setting) c.args.self.now.setting.instance (store_seen c.args.self.now).frame
    (calls_in c.args.self.now.setting (store_seen c.args.self.now).left) k (store_seen c.args.self.now).state)
    (λ z s. write c.args.self.now.setting c.args.writing (place_of c.args.target.now) z (store_seen c.args.self.now) s)))
    is)
    c.placed.ensures)

pub returns-in-Element : goal.returns-in-Element
returns-in-Element c =
    let is = ap place_of (c.in-Element.is ∙ sym (variant.rolls-Element c.in-Element.array c.in-Element.index c.in-Element.ty c.in-Element.span))
    ∙ fold-roll-TypedPlace TArgument TBase TExpr TPlace TCall argument_step base_step expr_step place_step call_step _
    ∙ ap (λ i. t_element c.in-Element.array (expr_of i) c.in-Element.ty c.in-Element.span) (sym c.deref-in-Element.ensures) in
    subst (λ n. Tells c.both.result c.args.self.now c.both.new.self (targets c.args.self.now c.args.writing (place_of c.args.target.now)) n) (sym (ap (target_due c.args.self.now.setting c.args.self.now.left c.args.writing) is))
    (tells_by _ c.both.result c.args.self.now c.both.new.self _ _
    (target_node c.args.self.now (store_seen c.args.self.now) c.in-Element.array c.args.target c.deref-in-Element.result c.ty.result.elem
    c.in-Element.ty c.in-Element.span c.args.writing
    (ap (λ t. t.elem) c.ty.ensures ∙ ap (λ l. (type_of (expr_of l)).elem) (c.deref.ensures ∙ sym c.deref-in-Element.ensures)) is)
    c.both.ensures)
