use Rattle.isp_gang_run.specs.Due.{hand_due, own, value_due}
use Rattle.std.specs.Prelude.{drop, take}
use Rattle.isp_gang_run.proofs.Progress.{leaves_as}
use Rattle.isp_typed.specs.declared.expr.TypedArgument.{TypedArgument}
use Rattle.isp_gang_run.specs.Most.{one, two}
use Rattle.std.proofs.Common.{sym, ap, ◌∙◌, arith, List, [], ap₂, length, ◌-◌, ◌∷◌}
use Rattle.isp_typed.specs.Typed.{TExpr, TPlace, TBase, TArgument, TCall}
use Rattle.isp_typed.specs.Views.{argument_of, argument_step, base_step, expr_step, place_step, call_step, arguments_of, call_of, expr_of}
use Rattle.isp_typed.specs.declared.expr.TypedArgument.TheFolds.{fold-roll-TypedArgument}
use Rattle.isp_typed.specs.declared.expr.TypedArgument.TheVariants as variant
use Rattle.isp_gang_run.proofs.Blocks.{headed}
use Rattle.isp_gang_run.proofs.Handing.{no_argument, no_argument_halts, one_argument, named_argument, call_view}
use Rattle.isp_gang_run.proofs.Lists.{nothing_left}
use Rattle.isp_gang_run.proofs.Results.{on_ok, if_err}
use Rattle.isp_gang_run.proofs.state.Evaluator.arguments.Goals as goal

pub returns-in-empty-clause-ok : goal.returns-in-empty-clause-ok
returns-in-empty-clause-ok c =
    on_ok c.enter.result
    (no_argument c.args.self.now c.args.call c.args.set c.enter.new.self c.args.rest c.args.done c.as_slice.result.now (nothing_left c.args.rest.now c.in-empty.len_below) c.as_slice.ensures.value)
    c.enter.ensures.ok

pub returns-in-empty-clause-err : goal.returns-in-empty-clause-err
returns-in-empty-clause-err c =
    if_err c.enter.result
    (λ e h. no_argument_halts c.args.self.now c.args.call c.args.set c.enter.new.self c.args.rest c.args.done c.as_slice.result.now e (nothing_left c.args.rest.now c.in-empty.len_below) c.as_slice.ensures.value h)
    c.enter.ensures.err

pub returns-in_ok-both-in-Value-clause-ok : goal.returns-in_ok-both-in-Value-clause-ok
returns-in_ok-both-in-Value-clause-ok c =
    one_argument c.args.self.now c.args.call c.args.set c.both.new.self c.args.rest c.args.done _ c.next-item.result (record { ref_ptr = _; now = c.in-Value.x })
    (headed c.args.rest.now c.next-item.result (omega (arith, c.in-len1-up.len_at_least)) c.next-item.is)
    (ap argument_of (c.in-Value.is ∙ sym (variant.rolls-Value c.in-Value.x)) ∙ fold-roll-TypedArgument TArgument TBase TExpr TPlace TCall argument_step base_step expr_step place_step call_step _)
    c.in_ok-both-in-Value.ensures.ok

pub returns-in_ok-later-in-Array-clause-ok : goal.returns-in_ok-later-in-Array-clause-ok
returns-in_ok-later-in-Array-clause-ok c =
    named_argument c.args.self.now c.args.call c.args.set c.later.new.self c.args.rest c.args.done c.tick.new.self c.tick.ensures _ c.next-item.result c.in-Array.array c.in-Array.span c.store.result c.push.new.self
    (headed c.args.rest.now c.next-item.result (omega (arith, c.in-len1-up.len_at_least)) c.next-item.is)
    (ap argument_of (c.in-Array.is ∙ sym (variant.rolls-Array c.in-Array.array c.in-Array.span)) ∙ fold-roll-TypedArgument TArgument TBase TExpr TPlace TCall argument_step base_step expr_step place_step call_step _)
    c.store.ensures c.in_ok-push-in-Array.ensures.items c.in_ok-later-in-Array.ensures.ok c.in_ok-later-in-Array.ensures.rest

pub returns-in-empty-clause-fewer : goal.returns-in-empty-clause-fewer
returns-in-empty-clause-fewer c =
    on_ok c.enter.result (leaves_as c.args.self.now c.enter.new.self c.args.self.now.left (ap (λ (xs : List TypedArgument). own c.args.self.now hand_due (call_of c.args.call.now) (arguments_of xs)) (nothing_left c.args.rest.now c.in-empty.len_below)
    ∙ ap (λ (k : TCall). own c.args.self.now hand_due k []) (call_view c.args.call.now))) c.enter.ensures.fewer

pub returns-in_ok-both-in-Value-clause-fewer : goal.returns-in_ok-both-in-Value-clause-fewer
returns-in_ok-both-in-Value-clause-fewer c =
    leaves_as c.args.self.now c.both.new.self c.args.self.now.left (ap (λ (xs : List TypedArgument). own c.args.self.now hand_due (call_of c.args.call.now) (arguments_of xs))
    (headed c.args.rest.now c.next-item.result (omega (arith, c.in-len1-up.len_at_least)) c.next-item.is)
    ∙ ap₂ (λ (k : TCall) (y : TArgument). own c.args.self.now hand_due k (y ∷ arguments_of (take (length c.args.rest.now - 1) (drop 1 c.args.rest.now)))) (call_view c.args.call.now)
    (ap argument_of (c.in-Value.is ∙ sym (variant.rolls-Value c.in-Value.x)) ∙ fold-roll-TypedArgument TArgument TBase TExpr TPlace TCall argument_step base_step expr_step place_step call_step _)
    ∙ ap (λ (k : TCall). two (own c.args.self.now value_due (expr_of c.in-Value.x)) (one (own c.args.self.now hand_due k (arguments_of (take (length c.args.rest.now - 1) (drop 1 c.args.rest.now)))))) (sym (call_view c.args.call.now))) c.in_ok-both-in-Value.ensures.fewer

pub returns-in_ok-later-in-Array-clause-fewer : goal.returns-in_ok-later-in-Array-clause-fewer
returns-in_ok-later-in-Array-clause-fewer c =
    leaves_as c.args.self.now c.later.new.self c.args.self.now.left (ap (λ (xs : List TypedArgument). own c.args.self.now hand_due (call_of c.args.call.now) (arguments_of xs))
    (headed c.args.rest.now c.next-item.result (omega (arith, c.in-len1-up.len_at_least)) c.next-item.is)
    ∙ ap₂ (λ (k : TCall) (y : TArgument). own c.args.self.now hand_due k (y ∷ arguments_of (take (length c.args.rest.now - 1) (drop 1 c.args.rest.now)))) (call_view c.args.call.now)
    (ap argument_of (c.in-Array.is ∙ sym (variant.rolls-Array c.in-Array.array c.in-Array.span)) ∙ fold-roll-TypedArgument TArgument TBase TExpr TPlace TCall argument_step base_step expr_step place_step call_step _)
    ∙ ap (λ (k : TCall). one (own c.args.self.now hand_due k (arguments_of (take (length c.args.rest.now - 1) (drop 1 c.args.rest.now))))) (sym (call_view c.args.call.now))) c.in_ok-later-in-Array.ensures.fewer
