use Rattle.isp_gang_run.specs.Due.{own, value_due}
use Rattle.isp_gang_run.proofs.Progress.{leaves_as}
use Rattle.std.proofs.Common.{sym, ap, ap₂, ◌∙◌}
use Rattle.isp_typed.specs.Typed.{TExpr, TPlace, TBase, TArgument, TCall, t_binary, t_compare, type_of}
use Rattle.isp_typed.specs.Views.{argument_step, base_step, expr_step, place_step, call_step, expr_of}
use Rattle.isp_typed.specs.declared.expr.TypedExpr.TheVariants as variant
use Rattle.isp_typed.specs.declared.expr.TypedArgument.TheFolds.{fold-roll-TypedExpr}
use Rattle.isp_gang_run.specs.declared.tasks.Task.TheVariants as task
use Rattle.isp_gang_run.proofs.Acting.{refused_err}
use Rattle.isp_gang_run.proofs.Nodes.{binary_node, compare_node}
use Rattle.isp_gang_run.proofs.Results.{on_ok}
use Rattle.isp_gang_run.proofs.state.Evaluator.of_two.Goals as goal

pub returns-in-Binary-clause-ok : goal.returns-in-Binary-clause-ok
returns-in-Binary-clause-ok c =
    on_ok c.reach.result
    (binary_node c.args.self.now c.reach.new.self c.args.x c.deref.result c.args.set c.in-Binary.operator c.deref-in-Binary.result c.in-Binary.ty c.in-Binary.span
    (ap expr_of (c.in-Binary.is ∙ sym (variant.rolls-Binary c.in-Binary.operator c.in-Binary.left c.in-Binary.right c.in-Binary.ty c.in-Binary.span))
    ∙ fold-roll-TypedExpr TArgument TBase TExpr TPlace TCall argument_step base_step expr_step place_step call_step _
    ∙ ap₂ (λ l r. t_binary c.in-Binary.operator (expr_of l) (expr_of r) c.in-Binary.ty c.in-Binary.span) (sym c.deref.ensures)
    (sym c.deref-in-Binary.ensures)))
    c.reach.ensures.ok

pub returns-in-Binary-clause-err : goal.returns-in-Binary-clause-err
returns-in-Binary-clause-err c = refused_err c.args.self.now c.reach.new.self (task.Value c.args.x c.args.set) c.reach.result c.reach.ensures.err

pub returns-in-Compare-clause-ok : goal.returns-in-Compare-clause-ok
returns-in-Compare-clause-ok c =
    on_ok c.reach-in-Compare.result
    (compare_node c.args.self.now c.reach-in-Compare.new.self c.args.x c.deref-in-Compare-2.result c.args.set c.in-Compare.comparison c.ty.result.elem c.deref-in-Compare-3.result c.in-Compare.rate c.in-Compare.span
    (ap (λ t. t.elem) c.ty.ensures ∙ ap (λ l. (type_of (expr_of l)).elem) (c.deref-in-Compare.ensures ∙ sym c.deref-in-Compare-2.ensures))
    (ap expr_of (c.in-Compare.is ∙ sym (variant.rolls-Compare c.in-Compare.comparison c.in-Compare.left c.in-Compare.right c.in-Compare.rate
    c.in-Compare.span)) ∙ fold-roll-TypedExpr TArgument TBase TExpr TPlace TCall argument_step base_step expr_step place_step call_step _
    ∙ ap₂ (λ l r. t_compare c.in-Compare.comparison (expr_of l) (expr_of r) c.in-Compare.rate c.in-Compare.span)
    (sym c.deref-in-Compare-2.ensures) (sym c.deref-in-Compare-3.ensures)))
    c.reach-in-Compare.ensures.ok

pub returns-in-Compare-clause-err : goal.returns-in-Compare-clause-err
returns-in-Compare-clause-err c = refused_err c.args.self.now c.reach-in-Compare.new.self (task.Value c.args.x c.args.set) c.reach-in-Compare.result c.reach-in-Compare.ensures.err

pub returns-in-Binary-clause-fewer : goal.returns-in-Binary-clause-fewer
returns-in-Binary-clause-fewer c =
    on_ok c.reach.result (leaves_as c.args.self.now c.reach.new.self c.args.self.now.left (ap (λ (n : TExpr). own c.args.self.now value_due n)
    (ap expr_of (c.in-Binary.is ∙ sym (variant.rolls-Binary c.in-Binary.operator c.in-Binary.left c.in-Binary.right c.in-Binary.ty c.in-Binary.span))
    ∙ fold-roll-TypedExpr TArgument TBase TExpr TPlace TCall argument_step base_step expr_step place_step call_step _
    ∙ ap₂ (λ l r. t_binary c.in-Binary.operator (expr_of l) (expr_of r) c.in-Binary.ty c.in-Binary.span) (sym c.deref.ensures)
    (sym c.deref-in-Binary.ensures)))) c.reach.ensures.fewer

pub returns-in-Compare-clause-fewer : goal.returns-in-Compare-clause-fewer
returns-in-Compare-clause-fewer c =
    on_ok c.reach-in-Compare.result (leaves_as c.args.self.now c.reach-in-Compare.new.self c.args.self.now.left (ap (λ (n : TExpr). own c.args.self.now value_due n)
    (ap expr_of (c.in-Compare.is ∙ sym (variant.rolls-Compare c.in-Compare.comparison c.in-Compare.left c.in-Compare.right c.in-Compare.rate
    c.in-Compare.span)) ∙ fold-roll-TypedExpr TArgument TBase TExpr TPlace TCall argument_step base_step expr_step place_step call_step _
    ∙ ap₂ (λ l r. t_compare c.in-Compare.comparison (expr_of l) (expr_of r) c.in-Compare.rate c.in-Compare.span)
    (sym c.deref-in-Compare-2.ensures) (sym c.deref-in-Compare-3.ensures)))) c.reach-in-Compare.ensures.fewer
