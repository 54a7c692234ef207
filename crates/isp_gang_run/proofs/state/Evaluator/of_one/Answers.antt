use Rattle.isp_gang_run.specs.Due.{own, value_due}
use Rattle.isp_gang_run.proofs.Progress.{leaves_as}
use Rattle.std.proofs.Common.{sym, ap, ◌∙◌}
use Rattle.isp_typed.specs.Typed.{TExpr, TPlace, TBase, TArgument, TCall, t_cast, t_convert, t_unary, type_of}
use Rattle.isp_typed.specs.Views.{argument_step, base_step, expr_step, place_step, call_step, expr_of}
use Rattle.isp_typed.specs.declared.expr.TypedExpr.TheVariants as variant
use Rattle.isp_typed.specs.declared.expr.TypedArgument.TheFolds.{fold-roll-TypedExpr}
use Rattle.isp_gang_run.specs.declared.tasks.Task.TheVariants as task
use Rattle.isp_gang_run.proofs.Acting.{refused_err}
use Rattle.isp_gang_run.proofs.Leaves.{convert_node, cast_node}
use Rattle.isp_gang_run.proofs.Nodes.{unary_node}
use Rattle.isp_gang_run.proofs.Results.{on_ok, on_both}
use Rattle.isp_gang_run.proofs.state.Evaluator.of_one.Goals as goal

pub returns-in-Convert-clause-ok : goal.returns-in-Convert-clause-ok
returns-in-Convert-clause-ok c =
    on_ok c.both.result
    (convert_node c.args.self.now c.both.new.self c.args.x c.deref-in-Convert.result c.args.set c.ty.result.elem c.in-Convert.elem
    (ap (λ t. t.elem) c.ty.ensures ∙ ap (λ l. (type_of (expr_of l)).elem) (c.deref.ensures ∙ sym c.deref-in-Convert.ensures))
    (ap expr_of (c.in-Convert.is ∙ sym (variant.rolls-Convert c.in-Convert.elem c.in-Convert.operand))
    ∙ fold-roll-TypedExpr TArgument TBase TExpr TPlace TCall argument_step base_step expr_step place_step call_step _
    ∙ ap (λ i. t_convert c.in-Convert.elem (expr_of i)) (sym c.deref-in-Convert.ensures)))
    c.both.ensures.ok

pub returns-in-Convert-clause-err : goal.returns-in-Convert-clause-err
returns-in-Convert-clause-err c = refused_err c.args.self.now c.both.new.self (task.Value c.args.x c.args.set) c.both.result c.both.ensures.err

pub returns-in-Cast-clause-ok : goal.returns-in-Cast-clause-ok
returns-in-Cast-clause-ok c =
    on_both c.later.result
    (λ i s. cast_node c.args.self.now c.later.new.self c.tick.new.self c.tick.ensures c.args.x c.deref-in-Cast.result c.args.set c.in-Cast.ty c.in-Cast.span
    (ap expr_of (c.in-Cast.is ∙ sym (variant.rolls-Cast c.in-Cast.operand c.in-Cast.ty c.in-Cast.span))
    ∙ fold-roll-TypedExpr TArgument TBase TExpr TPlace TCall argument_step base_step expr_step place_step call_step _
    ∙ ap (λ i. t_cast (expr_of i) c.in-Cast.ty c.in-Cast.span) (sym c.deref-in-Cast.ensures))
    (record { items = i; same = s }))
    c.later.ensures.ok c.later.ensures.rest

pub returns-in-Cast-clause-err : goal.returns-in-Cast-clause-err
returns-in-Cast-clause-err c = refused_err c.args.self.now c.later.new.self (task.Value c.args.x c.args.set) c.later.result c.later.ensures.err

pub returns-in-Unary-clause-ok : goal.returns-in-Unary-clause-ok
returns-in-Unary-clause-ok c =
    on_ok c.reach.result
    (unary_node c.args.self.now c.reach.new.self c.args.x c.deref-in-Unary.result c.args.set c.in-Unary.operator c.in-Unary.ty c.in-Unary.span
    (ap expr_of (c.in-Unary.is ∙ sym (variant.rolls-Unary c.in-Unary.operator c.in-Unary.operand c.in-Unary.ty c.in-Unary.span))
    ∙ fold-roll-TypedExpr TArgument TBase TExpr TPlace TCall argument_step base_step expr_step place_step call_step _
    ∙ ap (λ i. t_unary c.in-Unary.operator (expr_of i) c.in-Unary.ty c.in-Unary.span) (sym c.deref-in-Unary.ensures)))
    c.reach.ensures.ok

pub returns-in-Unary-clause-err : goal.returns-in-Unary-clause-err
returns-in-Unary-clause-err c = refused_err c.args.self.now c.reach.new.self (task.Value c.args.x c.args.set) c.reach.result c.reach.ensures.err

pub returns-in-Convert-clause-fewer : goal.returns-in-Convert-clause-fewer
returns-in-Convert-clause-fewer c =
    on_ok c.both.result (leaves_as c.args.self.now c.both.new.self c.args.self.now.left (ap (λ (n : TExpr). own c.args.self.now value_due n)
    (ap expr_of (c.in-Convert.is ∙ sym (variant.rolls-Convert c.in-Convert.elem c.in-Convert.operand))
    ∙ fold-roll-TypedExpr TArgument TBase TExpr TPlace TCall argument_step base_step expr_step place_step call_step _
    ∙ ap (λ i. t_convert c.in-Convert.elem (expr_of i)) (sym c.deref-in-Convert.ensures)))) c.both.ensures.fewer

pub returns-in-Cast-clause-fewer : goal.returns-in-Cast-clause-fewer
returns-in-Cast-clause-fewer c =
    on_ok c.later.result (leaves_as c.args.self.now c.later.new.self c.args.self.now.left (ap (λ (n : TExpr). own c.args.self.now value_due n)
    (ap expr_of (c.in-Cast.is ∙ sym (variant.rolls-Cast c.in-Cast.operand c.in-Cast.ty c.in-Cast.span))
    ∙ fold-roll-TypedExpr TArgument TBase TExpr TPlace TCall argument_step base_step expr_step place_step call_step _
    ∙ ap (λ i. t_cast (expr_of i) c.in-Cast.ty c.in-Cast.span) (sym c.deref-in-Cast.ensures)))) c.later.ensures.fewer

pub returns-in-Unary-clause-fewer : goal.returns-in-Unary-clause-fewer
returns-in-Unary-clause-fewer c =
    on_ok c.reach.result (leaves_as c.args.self.now c.reach.new.self c.args.self.now.left (ap (λ (n : TExpr). own c.args.self.now value_due n)
    (ap expr_of (c.in-Unary.is ∙ sym (variant.rolls-Unary c.in-Unary.operator c.in-Unary.operand c.in-Unary.ty c.in-Unary.span))
    ∙ fold-roll-TypedExpr TArgument TBase TExpr TPlace TCall argument_step base_step expr_step place_step call_step _
    ∙ ap (λ i. t_unary c.in-Unary.operator (expr_of i) c.in-Unary.ty c.in-Unary.span) (sym c.deref-in-Unary.ensures)))) c.reach.ensures.fewer
