use Rattle.isp_gang_run.proofs.Progress.{leaves_as}
use Rattle.isp_gang_run.specs.Due.{own, packs_due}
use Rattle.std.proofs.Common.{sym, ap, ◌∙◌}
use Rattle.isp_typed.specs.Typed.{TExpr, TPlace, TBase, TArgument, TCall, t_from, type_of}
use Rattle.isp_typed.specs.Views.{argument_step, base_step, expr_step, place_step, call_step, base_of, expr_of}
use Rattle.isp_typed.specs.declared.expr.TypedArgument.TheFolds.{fold-roll-TypedBase}
use Rattle.isp_typed.specs.declared.expr.TypedBase.TheVariants as variant
use Rattle.isp_gang_run.proofs.PackedCalls.{whole_comes, whole_halts, from_comes}
use Rattle.isp_gang_run.proofs.Results.{on_ok, if_err}
use Rattle.isp_gang_run.proofs.state.Evaluator.base.Goals as goal

pub returns-in-Whole-clause-ok : goal.returns-in-Whole-clause-ok
returns-in-Whole-clause-ok c =
    on_ok c.packed.result
    (whole_comes c.args.self.now c.packed.new.self c.tick.new.self c.tick.ensures c.args.packing c.args.base.now c.args.span c.args.set c.in-Whole.array c.in-Whole.span
    (ap base_of (c.in-Whole.is ∙ sym (variant.rolls-Whole c.in-Whole.array c.in-Whole.span)) ∙ fold-roll-TypedBase TArgument TBase TExpr TPlace TCall argument_step base_step expr_step place_step call_step _))
    c.packed.ensures.ok

pub returns-in-Whole-clause-err : goal.returns-in-Whole-clause-err
returns-in-Whole-clause-err c =
    if_err c.packed.result
    (λ e h. whole_halts c.args.self.now c.packed.new.self c.tick.new.self c.tick.ensures c.args.packing c.args.base.now c.args.span c.args.set c.in-Whole.array c.in-Whole.span e
    (ap base_of (c.in-Whole.is ∙ sym (variant.rolls-Whole c.in-Whole.array c.in-Whole.span)) ∙ fold-roll-TypedBase TArgument TBase TExpr TPlace TCall argument_step base_step expr_step place_step call_step _) h)
    c.packed.ensures.err

pub returns-in_ok-both-in-From-clause-ok : goal.returns-in_ok-both-in-From-clause-ok
returns-in_ok-both-in-From-clause-ok c =
    from_comes c.args.self.now c.both.new.self c.tick.new.self c.tick.ensures c.args.packing c.args.base.now c.args.span c.args.set c.in-From.array c.deref-in-From.result c.ty.result.elem c.in-From.span
    (ap (λ t. t.elem) c.ty.ensures ∙ ap (λ l. (type_of (expr_of l)).elem) (c.deref.ensures ∙ sym c.deref-in-From.ensures))
    (ap base_of (c.in-From.is ∙ sym (variant.rolls-From c.in-From.array c.in-From.index c.in-From.span))
    ∙ fold-roll-TypedBase TArgument TBase TExpr TPlace TCall argument_step base_step expr_step place_step call_step _
    ∙ ap (λ i. t_from c.in-From.array (expr_of i) c.in-From.span) (sym c.deref-in-From.ensures))
    c.in_ok-both-in-From.ensures.ok

pub returns-in-Whole-clause-fewer : goal.returns-in-Whole-clause-fewer
returns-in-Whole-clause-fewer c =
    on_ok c.packed.result (leaves_as c.args.self.now c.packed.new.self c.args.self.now.left (ap (λ (n : TBase). own c.args.self.now packs_due c.args.packing n)
    (ap base_of (c.in-Whole.is ∙ sym (variant.rolls-Whole c.in-Whole.array c.in-Whole.span)) ∙ fold-roll-TypedBase TArgument TBase TExpr TPlace TCall argument_step base_step expr_step place_step call_step _))) c.packed.ensures.fewer

pub returns-in_ok-both-in-From-clause-fewer : goal.returns-in_ok-both-in-From-clause-fewer
returns-in_ok-both-in-From-clause-fewer c =
    leaves_as c.args.self.now c.both.new.self c.args.self.now.left (ap (λ (n : TBase). own c.args.self.now packs_due c.args.packing n)
    (ap base_of (c.in-From.is ∙ sym (variant.rolls-From c.in-From.array c.in-From.index c.in-From.span))
    ∙ fold-roll-TypedBase TArgument TBase TExpr TPlace TCall argument_step base_step expr_step place_step call_step _
    ∙ ap (λ i. t_from c.in-From.array (expr_of i) c.in-From.span) (sym c.deref-in-From.ensures))) c.in_ok-both-in-From.ensures.fewer
