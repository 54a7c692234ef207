use Rattle.isp_solo_run.proofs.Handing.{named_tells, no_argument_tells, value_tells}
use Rattle.std.proofs.Common.{◌∙◌, ap, sym, arith, length, take, drop, ◌-◌}
use Rattle.isp_typed.specs.Typed.{TExpr, TPlace, TBase, TArgument, TCall}
use Rattle.isp_typed.specs.Views.{argument_step, base_step, expr_step, place_step, call_step, argument_of}
use Rattle.isp_typed.specs.declared.expr.TypedArgument.TheVariants as variant
use Rattle.isp_typed.specs.declared.expr.TypedArgument.TheFolds.{fold-roll-TypedArgument}
use Rattle.isp_solo_run.specs.Tasks.{store_seen}
use Rattle.isp_solo_run.proofs.Handing.{no_argument, value_argument, named_argument}
use Rattle.isp_solo_run.proofs.Lists.{nothing_left, headed}
use Rattle.isp_solo_run.proofs.Steps.{tells_by}
use Rattle.isp_solo_run.proofs.state.Single.arguments.Goals as goal

pub returns-in-empty : goal.returns-in-empty
returns-in-empty c =
    let old = c.args.self.now in
    no_argument_tells c.enter.result old c.enter.new.self c.args.call.now c.args.rest.now c.args.done.items c.as_slice.result.now (nothing_left c.args.rest.now c.in-empty.len_below) c.as_slice.ensures.value c.enter.ensures

pub returns-in-Value : goal.returns-in-Value
returns-in-Value c =
    let old = c.args.self.now in
    value_tells c.both.result old c.both.new.self c.args.call (record { ref_ptr = (0, 0); now = take (length c.args.rest.now - 1) (drop 1 c.args.rest.now) }) c.args.done c.args.rest.now c.next-item.result (record { ref_ptr = (0, 0); now = c.in-Value.x })
    (headed c.args.rest.now c.next-item.result (omega (arith, c.in-len1-up.len_at_least)) c.next-item.is)
    (ap argument_of (c.in-Value.is ∙ sym (variant.rolls-Value c.in-Value.x)) ∙ fold-roll-TypedArgument TArgument TBase TExpr TPlace TCall argument_step base_step expr_step place_step call_step _)
    c.both.ensures

pub returns-in-Ok : goal.returns-in-Ok
returns-in-Ok c =
    let old = c.args.self.now in
    named_tells c.later.result old c.later.new.self c.args.call c.args.rest.now c.next-item.result
    (record { ref_ptr = (0, 0); now = take (length c.args.rest.now - 1) (drop 1 c.args.rest.now) }) c.in-Array.array c.in-Array.span
    c.store.result c.args.done.items c.push.new.self
    (headed c.args.rest.now c.next-item.result (omega (arith, c.in-len1-up.len_at_least)) c.next-item.is)
    (ap argument_of (c.in-Array.is ∙ sym (variant.rolls-Array c.in-Array.array c.in-Array.span)) ∙ fold-roll-TypedArgument TArgument TBase TExpr TPlace TCall argument_step base_step expr_step place_step call_step _)
    c.store.ensures c.in-Ok.ensures.items
    c.later.ensures
