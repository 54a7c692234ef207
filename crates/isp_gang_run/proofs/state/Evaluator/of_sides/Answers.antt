use Rattle.isp_gang_run.specs.Due.{own, value_due}
use Rattle.isp_gang_run.proofs.Progress.{leaves_as}
use Rattle.std.proofs.Common.{sym, ap, ap₂, ◌∙◌}
use Rattle.isp_typed.specs.Typed.{TExpr, TPlace, TBase, TArgument, TCall, t_choose, t_logic}
use Rattle.isp_typed.specs.Views.{argument_step, base_step, expr_step, place_step, call_step, expr_of}
use Rattle.isp_typed.specs.declared.expr.TypedExpr.TheVariants as variant
use Rattle.isp_typed.specs.declared.expr.TypedArgument.TheFolds.{fold-roll-TypedExpr}
use Rattle.isp_gang_run.specs.declared.tasks.Task.TheVariants as task
use Rattle.isp_gang_run.proofs.Acting.{refused_err}
use Rattle.isp_gang_run.proofs.Nodes.{logic_node, choose_node}
use Rattle.isp_gang_run.proofs.Results.{on_ok}
use Rattle.isp_gang_run.proofs.state.Evaluator.of_sides.Goals as goal

pub returns-in-Logic-clause-ok : goal.returns-in-Logic-clause-ok
returns-in-Logic-clause-ok c =
    on_ok c.reach.result
    (logic_node c.args.self.now c.reach.new.self c.args.x c.deref.result c.args.set c.in-Logic.logic c.deref-in-Logic.result c.in-Logic.rate c.in-Logic.span
    (ap expr_of (c.in-Logic.is ∙ sym (variant.rolls-Logic c.in-Logic.logic c.in-Logic.left c.in-Logic.right c.in-Logic.rate c.in-Logic.span))
    ∙ fold-roll-TypedExpr TArgument TBase TExpr TPlace TCall argument_step base_step expr_step place_step call_step _
    ∙ ap₂ (λ l r. t_logic c.in-Logic.logic (expr_of l) (expr_of r) c.in-Logic.rate c.in-Logic.span) (sym c.deref.ensures)
    (sym c.deref-in-Logic.ensures)))
    c.reach.ensures.ok

pub returns-in-Logic-clause-err : goal.returns-in-Logic-clause-err
returns-in-Logic-clause-err c = refused_err c.args.self.now c.reach.new.self (task.Value c.args.x c.args.set) c.reach.result c.reach.ensures.err

pub returns-in-Choose-clause-ok : goal.returns-in-Choose-clause-ok
returns-in-Choose-clause-ok c =
    on_ok c.reach-in-Choose.result
    (choose_node c.args.self.now c.reach-in-Choose.new.self c.args.x c.deref-in-Choose-3.result c.args.set c.deref-in-Choose.result c.deref-in-Choose-2.result c.in-Choose.ty c.in-Choose.span
    (ap expr_of (c.in-Choose.is ∙ sym (variant.rolls-Choose c.in-Choose.test c.in-Choose.then c.in-Choose.otherwise c.in-Choose.ty c.in-Choose.span))
    ∙ fold-roll-TypedExpr TArgument TBase TExpr TPlace TCall argument_step base_step expr_step place_step call_step _
    ∙ ap₂ (λ l r. t_choose (expr_of l) (expr_of r) (expr_of c.in-Choose.otherwise.value) c.in-Choose.ty c.in-Choose.span)
    (sym c.deref-in-Choose-3.ensures) (sym c.deref-in-Choose.ensures)
    ∙ ap (λ u. t_choose (expr_of c.deref-in-Choose-3.result.now) (expr_of c.deref-in-Choose.result.now) (expr_of u) c.in-Choose.ty c.in-Choose.span) (sym c.deref-in-Choose-2.ensures)))
    c.reach-in-Choose.ensures.ok

pub returns-in-Choose-clause-err : goal.returns-in-Choose-clause-err
returns-in-Choose-clause-err c = refused_err c.args.self.now c.reach-in-Choose.new.self (task.Value c.args.x c.args.set) c.reach-in-Choose.result c.reach-in-Choose.ensures.err

pub returns-in-Logic-clause-fewer : goal.returns-in-Logic-clause-fewer
returns-in-Logic-clause-fewer c =
    on_ok c.reach.result (leaves_as c.args.self.now c.reach.new.self c.args.self.now.left (ap (λ (n : TExpr). own c.args.self.now value_due n)
    (ap expr_of (c.in-Logic.is ∙ sym (variant.rolls-Logic c.in-Logic.logic c.in-Logic.left c.in-Logic.right c.in-Logic.rate c.in-Logic.span))
    ∙ fold-roll-TypedExpr TArgument TBase TExpr TPlace TCall argument_step base_step expr_step place_step call_step _
    ∙ ap₂ (λ l r. t_logic c.in-Logic.logic (expr_of l) (expr_of r) c.in-Logic.rate c.in-Logic.span) (sym c.deref.ensures)
    (sym c.deref-in-Logic.ensures)))) c.reach.ensures.fewer

pub returns-in-Choose-clause-fewer : goal.returns-in-Choose-clause-fewer
returns-in-Choose-clause-fewer c =
    on_ok c.reach-in-Choose.result (leaves_as c.args.self.now c.reach-in-Choose.new.self c.args.self.now.left (ap (λ (n : TExpr). own c.args.self.now value_due n)
    (ap expr_of (c.in-Choose.is ∙ sym (variant.rolls-Choose c.in-Choose.test c.in-Choose.then c.in-Choose.otherwise c.in-Choose.ty c.in-Choose.span))
    ∙ fold-roll-TypedExpr TArgument TBase TExpr TPlace TCall argument_step base_step expr_step place_step call_step _
    ∙ ap₂ (λ l r. t_choose (expr_of l) (expr_of r) (expr_of c.in-Choose.otherwise.value) c.in-Choose.ty c.in-Choose.span)
    (sym c.deref-in-Choose-3.ensures) (sym c.deref-in-Choose.ensures)
    ∙ ap (λ u. t_choose (expr_of c.deref-in-Choose-3.result.now) (expr_of c.deref-in-Choose.result.now) (expr_of u) c.in-Choose.ty c.in-Choose.span) (sym c.deref-in-Choose-2.ensures)))) c.reach-in-Choose.ensures.fewer
