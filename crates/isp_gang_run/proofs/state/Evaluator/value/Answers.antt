use Rattle.isp_gang_run.specs.Due.{own, value_due}
use Rattle.isp_gang_run.proofs.Progress.{leaves_as, no_more}
use Rattle.std.proofs.Common.{sym, ap, ◌∙◌}
use Rattle.isp_typed.specs.Typed.{TExpr, TPlace, TBase, TArgument, TCall}
use Rattle.isp_typed.specs.Views.{argument_step, base_step, expr_step, place_step, call_step, expr_of}
use Rattle.isp_typed.specs.declared.expr.TypedExpr.TheVariants as variant
use Rattle.isp_typed.specs.declared.expr.TypedArgument.TheFolds.{fold-roll-TypedExpr}
use Rattle.isp_gang_run.specs.declared.tasks.Task.TheVariants as task
use Rattle.isp_gang_run.proofs.Acting.{refused_err}
use Rattle.isp_gang_run.proofs.Gathers.{call_node}
use Rattle.isp_gang_run.proofs.Leaves.{constant_node, index_node, found_does}
use Rattle.isp_gang_run.proofs.Results.{on_ok, on_both}
use Rattle.isp_gang_run.proofs.state.Evaluator.value.Goals as goal

pub returns-in-Constant-clause-ok : goal.returns-in-Constant-clause-ok
returns-in-Constant-clause-ok c =
    constant_node c.args.self.now c.tick.new.self c.tick.ensures c.low_bits.result c.args.x c.args.set c.in-Constant.value c.in-Constant.span
    (ap expr_of (c.in-Constant.is ∙ sym (variant.rolls-Constant c.in-Constant.value c.in-Constant.span)) ∙ fold-roll-TypedExpr TArgument TBase TExpr TPlace TCall argument_step base_step expr_step place_step call_step _)
    c.low_bits.ensures

pub returns-in-ProgramIndex-clause-ok : goal.returns-in-ProgramIndex-clause-ok
returns-in-ProgramIndex-clause-ok c =
    index_node c.args.self.now c.tick-in-ProgramIndex.new.self c.tick-in-ProgramIndex.ensures c.numbers-self.result c.args.x c.args.set c.in-ProgramIndex.span
    (ap expr_of (c.in-ProgramIndex.is ∙ sym (variant.rolls-ProgramIndex c.in-ProgramIndex.span)) ∙ fold-roll-TypedExpr TArgument TBase TExpr TPlace TCall argument_step base_step expr_step place_step call_step _)
    c.numbers-self.ensures

pub returns-in-Place-clause-ok : goal.returns-in-Place-clause-ok
returns-in-Place-clause-ok c =
    on_ok c.place.result
    (found_does c.args.self.now c.place.new.self c.args.x c.args.set _
    (ap expr_of (c.in-Place.is ∙ sym (variant.rolls-Place c.in-Place.place)) ∙ fold-roll-TypedExpr TArgument TBase TExpr TPlace TCall argument_step base_step expr_step place_step call_step _))
    c.place.ensures.ok

pub returns-in-Place-clause-err : goal.returns-in-Place-clause-err
returns-in-Place-clause-err c = refused_err c.args.self.now c.place.new.self (task.Value c.args.x c.args.set) c.place.result c.place.ensures.err

pub returns-in-Call-clause-ok : goal.returns-in-Call-clause-ok
returns-in-Call-clause-ok c =
    on_both c.later.result
    (call_node c.args.self.now c.later.new.self c.args.x (record { ref_ptr = _; now = c.in-Call.call }) c.args.set c.in-Call.ty
    (ap expr_of (c.in-Call.is ∙ sym (variant.rolls-Call c.in-Call.call c.in-Call.ty)) ∙ fold-roll-TypedExpr TArgument TBase TExpr TPlace TCall argument_step base_step expr_step place_step call_step _))
    c.later.ensures.ok c.later.ensures.rest

pub returns-in-Call-clause-err : goal.returns-in-Call-clause-err
returns-in-Call-clause-err c = refused_err c.args.self.now c.later.new.self (task.Value c.args.x c.args.set) c.later.result c.later.ensures.err

pub returns-in-Constant-clause-fewer : goal.returns-in-Constant-clause-fewer
returns-in-Constant-clause-fewer c =
    no_more c.args.self.now (own c.args.self.now value_due (expr_of c.args.x.now))

pub returns-in-ProgramIndex-clause-fewer : goal.returns-in-ProgramIndex-clause-fewer
returns-in-ProgramIndex-clause-fewer c =
    no_more c.args.self.now (own c.args.self.now value_due (expr_of c.args.x.now))

pub returns-in-Place-clause-fewer : goal.returns-in-Place-clause-fewer
returns-in-Place-clause-fewer c =
    on_ok c.place.result (leaves_as c.args.self.now c.place.new.self c.args.self.now.left (ap (λ (n : TExpr). own c.args.self.now value_due n)
    (ap expr_of (c.in-Place.is ∙ sym (variant.rolls-Place c.in-Place.place)) ∙ fold-roll-TypedExpr TArgument TBase TExpr TPlace TCall argument_step base_step expr_step place_step call_step _))) c.place.ensures.fewer

pub returns-in-Call-clause-fewer : goal.returns-in-Call-clause-fewer
returns-in-Call-clause-fewer c =
    on_ok c.later.result (leaves_as c.args.self.now c.later.new.self c.args.self.now.left (ap (λ (n : TExpr). own c.args.self.now value_due n)
    (ap expr_of (c.in-Call.is ∙ sym (variant.rolls-Call c.in-Call.call c.in-Call.ty)) ∙ fold-roll-TypedExpr TArgument TBase TExpr TPlace TCall argument_step base_step expr_step place_step call_step _))) c.later.ensures.fewer
