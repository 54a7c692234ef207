use Rattle.isp_gang_run.specs.Due.{own, value_due}
use Rattle.isp_gang_run.proofs.Progress.{leaves_as}
use Rattle.std.proofs.Common.{sym, ap, ◌∙◌}
use Rattle.isp_typed.specs.Typed.{TExpr, TPlace, TBase, TArgument, TCall, t_exprs, t_library, t_packed_store}
use Rattle.isp_typed.specs.Views.{argument_step, base_step, expr_step, place_step, call_step, base_of, expr_of, exprs_of}
use Rattle.isp_typed.specs.declared.expr.TypedExpr.TheVariants as variant
use Rattle.isp_typed.specs.declared.expr.TypedArgument.TheFolds.{fold-roll-TypedExpr}
use Rattle.isp_gang_run.specs.declared.tasks.Packing.TheVariants as packing
use Rattle.isp_gang_run.specs.declared.tasks.Task.TheVariants as task
use Rattle.isp_gang_run.proofs.Acting.{refused_err}
use Rattle.isp_gang_run.proofs.Gathers.{library_node}
use Rattle.isp_gang_run.proofs.PackedCalls.{packed_node, packed_node_halts}
use Rattle.isp_gang_run.proofs.Results.{on_ok, if_err}
use Rattle.isp_gang_run.proofs.state.Evaluator.of_library.Goals as goal

pub returns-in-Library-clause-ok : goal.returns-in-Library-clause-ok
returns-in-Library-clause-ok c =
    on_ok c.values.result
    (library_node c.args.self.now c.values.new.self c.tick.new.self c.tick.ensures c.args.x c.args.set c.in-Library.function c.in-Library.elem c.as_slice.result.now c.new-done.result c.in-Library.ty c.in-Library.span
    (ap expr_of (c.in-Library.is ∙ sym (variant.rolls-Library c.in-Library.function c.in-Library.elem c.in-Library.values c.in-Library.ty
    c.in-Library.span)) ∙ fold-roll-TypedExpr TArgument TBase TExpr TPlace TCall argument_step base_step expr_step place_step call_step _
    ∙ ap (λ ys. t_library c.in-Library.function c.in-Library.elem (t_exprs (exprs_of ys)) c.in-Library.ty c.in-Library.span) (sym c.as_slice.ensures.value))
    c.new-done.ensures.items)
    c.values.ensures.ok

pub returns-in-Library-clause-err : goal.returns-in-Library-clause-err
returns-in-Library-clause-err c = refused_err c.args.self.now c.values.new.self (task.Value c.args.x c.args.set) c.values.result c.values.ensures.err

pub returns-in-PackedStore-clause-ok : goal.returns-in-PackedStore-clause-ok
returns-in-PackedStore-clause-ok c =
    on_ok c.base.result
    (packed_node c.args.self.now c.base.new.self c.tick-in-PackedStore.new.self c.tick-in-PackedStore.ensures c.args.x c.args.set
    (record { ref_ptr = c.args.x.ref_ptr; now = c.in-PackedStore.base }) c.in-PackedStore.span (packing.Store c.deref.result)
    (ap expr_of (c.in-PackedStore.is ∙ sym (variant.rolls-PackedStore c.in-PackedStore.base c.in-PackedStore.value c.in-PackedStore.span))
    ∙ fold-roll-TypedExpr TArgument TBase TExpr TPlace TCall argument_step base_step expr_step place_step call_step _
    ∙ ap (λ i. t_packed_store (base_of c.in-PackedStore.base) (expr_of i) c.in-PackedStore.span) (sym c.deref.ensures)))
    c.base.ensures.ok

pub returns-in-PackedStore-clause-err : goal.returns-in-PackedStore-clause-err
returns-in-PackedStore-clause-err c =
    if_err c.base.result
    (λ e h. packed_node_halts c.args.self.now c.base.new.self c.tick-in-PackedStore.new.self c.tick-in-PackedStore.ensures c.args.x c.args.set
    (record { ref_ptr = c.args.x.ref_ptr; now = c.in-PackedStore.base }) c.in-PackedStore.span (packing.Store c.deref.result) e
    (ap expr_of (c.in-PackedStore.is ∙ sym (variant.rolls-PackedStore c.in-PackedStore.base c.in-PackedStore.value c.in-PackedStore.span))
    ∙ fold-roll-TypedExpr TArgument TBase TExpr TPlace TCall argument_step base_step expr_step place_step call_step _
    ∙ ap (λ i. t_packed_store (base_of c.in-PackedStore.base) (expr_of i) c.in-PackedStore.span) (sym c.deref.ensures)) h)
    c.base.ensures.err

pub returns-in-PackedLoad-clause-ok : goal.returns-in-PackedLoad-clause-ok
returns-in-PackedLoad-clause-ok c =
    on_ok c.base-in-PackedLoad.result
    (packed_node c.args.self.now c.base-in-PackedLoad.new.self c.tick-in-PackedLoad.new.self c.tick-in-PackedLoad.ensures c.args.x c.args.set
    (record { ref_ptr = c.args.x.ref_ptr; now = c.in-PackedLoad.base }) c.in-PackedLoad.span (packing.Load c.in-PackedLoad.variable)
    (ap expr_of (c.in-PackedLoad.is ∙ sym (variant.rolls-PackedLoad c.in-PackedLoad.base c.in-PackedLoad.variable c.in-PackedLoad.span))
    ∙ fold-roll-TypedExpr TArgument TBase TExpr TPlace TCall argument_step base_step expr_step place_step call_step _))
    c.base-in-PackedLoad.ensures.ok

pub returns-in-PackedLoad-clause-err : goal.returns-in-PackedLoad-clause-err
returns-in-PackedLoad-clause-err c =
    if_err c.base-in-PackedLoad.result
    (λ e h. packed_node_halts c.args.self.now c.base-in-PackedLoad.new.self c.tick-in-PackedLoad.new.self c.tick-in-PackedLoad.ensures c.args.x
    c.args.set (record { ref_ptr = c.args.x.ref_ptr; now = c.in-PackedLoad.base }) c.in-PackedLoad.span (packing.Load c.in-PackedLoad.variable) e
    (ap expr_of (c.in-PackedLoad.is ∙ sym (variant.rolls-PackedLoad c.in-PackedLoad.base c.in-PackedLoad.variable c.in-PackedLoad.span))
    ∙ fold-roll-TypedExpr TArgument TBase TExpr TPlace TCall argument_step base_step expr_step place_step call_step _) h)
    c.base-in-PackedLoad.ensures.err

pub returns-in-Library-clause-fewer : goal.returns-in-Library-clause-fewer
returns-in-Library-clause-fewer c =
    on_ok c.values.result (leaves_as c.args.self.now c.values.new.self c.args.self.now.left (ap (λ (n : TExpr). own c.args.self.now value_due n)
    (ap expr_of (c.in-Library.is ∙ sym (variant.rolls-Library c.in-Library.function c.in-Library.elem c.in-Library.values c.in-Library.ty
    c.in-Library.span)) ∙ fold-roll-TypedExpr TArgument TBase TExpr TPlace TCall argument_step base_step expr_step place_step call_step _
    ∙ ap (λ ys. t_library c.in-Library.function c.in-Library.elem (t_exprs (exprs_of ys)) c.in-Library.ty c.in-Library.span) (sym c.as_slice.ensures.value)))) c.values.ensures.fewer

pub returns-in-PackedStore-clause-fewer : goal.returns-in-PackedStore-clause-fewer
returns-in-PackedStore-clause-fewer c =
    on_ok c.base.result (leaves_as c.args.self.now c.base.new.self c.args.self.now.left (ap (λ (n : TExpr). own c.args.self.now value_due n)
    (ap expr_of (c.in-PackedStore.is ∙ sym (variant.rolls-PackedStore c.in-PackedStore.base c.in-PackedStore.value c.in-PackedStore.span))
    ∙ fold-roll-TypedExpr TArgument TBase TExpr TPlace TCall argument_step base_step expr_step place_step call_step _
    ∙ ap (λ i. t_packed_store (base_of c.in-PackedStore.base) (expr_of i) c.in-PackedStore.span) (sym c.deref.ensures)))) c.base.ensures.fewer

pub returns-in-PackedLoad-clause-fewer : goal.returns-in-PackedLoad-clause-fewer
returns-in-PackedLoad-clause-fewer c =
    on_ok c.base-in-PackedLoad.result (leaves_as c.args.self.now c.base-in-PackedLoad.new.self c.args.self.now.left (ap (λ (n : TExpr). own c.args.self.now value_due n)
    (ap expr_of (c.in-PackedLoad.is ∙ sym (variant.rolls-PackedLoad c.in-PackedLoad.base c.in-PackedLoad.variable c.in-PackedLoad.span))
    ∙ fold-roll-TypedExpr TArgument TBase TExpr TPlace TCall argument_step base_step expr_step place_step call_step _))) c.base-in-PackedLoad.ensures.fewer
