use Rattle.std.proofs.Common.{◌∙◌, ◌+◌, ap, sym, subst, arith, drop}
use Rattle.isp_base.specs.declared.types.Rate.TheVariants.{Varying}
use Rattle.isp_typed.specs.Typed.{t_arguments, t_exprs}
use Rattle.isp_typed.specs.Views.{arguments_of, expr_of, exprs_of}
use Rattle.isp_lower_code.specs.Asks.{arguments_asks, call_asks, first_slot, operand_asks, values_asks}
use Rattle.isp_lower_code.specs.Room.{HasNumbers}
use Rattle.isp_registers.specs.Reserved.{Gives}
use Rattle.isp_registers.proofs.Walks.{argument_within, arguments_end, arguments_more, call_view}
use Rattle.isp_lower_code.specs.Library.{library_rates}
use Rattle.isp_registers.proofs.Walks.{value_within, values_end, values_more}
use Rattle.isp_registers.proofs.Growing.{both_given, gives_none, number_given, second_is, variable_given}
use Rattle.isp_registers.proofs.reserve.Reserve.+expr.Goals as goal

pub converted-returns : goal.converted-returns
converted-returns t c = both_given _ _ _ _ _ (rw c.ty.ensures at c.in_ok-spare.ensures) c.in_ok-expr.ensures

pub operand-returns : goal.operand-returns
operand-returns t c = both_given _ _ _ _ _ (rw c.ty-ty.ensures at c.in_ok-lift.ensures) c.in_ok-expr.ensures

pub unary-returns : goal.unary-returns
unary-returns t c = both_given _ _ _ _ _ c.in_ok-spare.ensures c.in_ok-operand.ensures

pub pair-returns : goal.pair-returns
pair-returns t c =
    let next = c.next-next.ensures.number in
    both_given _ _ _ _ _ (rw next at c.next-next.ensures.gives) (both_given _ _ _ _ _ c.in_ok-operand.ensures (rw next at c.in_ok-operand-2.ensures))

pub work_of_two-returns : goal.work_of_two-returns
work_of_two-returns t c = both_given _ _ _ _ _ c.in_ok-spare.ensures c.in_ok-pair.ensures

pub logic-returns : goal.logic-returns
logic-returns t c = both_given _ _ _ _ _ c.in_ok-spare.ensures (both_given _ _ _ _ _ c.test.ensures c.in_ok-pair.ensures)

pub choice-returns : goal.choice-returns
choice-returns t c =
    let second = c.side-second.ensures ∙ ap (first_slot c.ty-rate.result.rate) c.side-first.ensures ∙ second_is c.ty-rate.result.rate c.args.slot.number in
    rw (← c.ty-rate.ensures, ← c.side-first.ensures, ← second) (
    both_given _ _ _ _ _ c.in_ok-spare.ensures
    (both_given _ _ _ _ _ c.in_ok-expr.ensures
    (both_given _ _ _ _ _ c.in_ok-operand.ensures
    (both_given _ _ _ _ _ c.in_ok-operand-2.ensures c.sides.ensures)))
    )

pub read-returns : goal.read-returns
read-returns t c = both_given _ _ _ _ _ c.in_ok-target.ensures c.in_ok-held.ensures

pub element_index-returns : goal.element_index-returns
element_index-returns t c = both_given _ _ _ _ _ c.in_ok-run.ensures c.in_ok-index.ensures

pub index-returns : goal.index-returns
index-returns t c = both_given _ _ _ _ _ (rw c.ty.ensures at c.in_ok-lift.ensures) c.in_ok-converted.ensures

pub packed_store-returns : goal.packed_store-returns
packed_store-returns t c =
    let next = c.next-next.ensures.number in
    both_given _ _ _ _ _ c.in_ok-spare.ensures (both_given _ _ _ _ _ c.in_ok-base.ensures (both_given _ _ _ _ _ (rw next at c.next-next.ensures.gives) (rw next at c.in_ok-operand.ensures)))

pub packed_load-returns : goal.packed_load-returns
packed_load-returns t c =
    both_given _ _ _ _ _ c.in_ok-spare.ensures (both_given _ _ _ _ _ c.in_ok-base.ensures (variable_given _ _ Varying _ _ _ c.in_ok-loaded.ensures))

pub called-returns : goal.called-returns
called-returns t c = both_given _ _ _ _ _ c.in_ok-spare.ensures c.in_ok-call.ensures

pub call-returns : goal.call-returns
call-returns t c =
    let n = c.args.slot.number in
    subst (λ z. Gives c.args.self.now c.arguments.new.self (call_asks z n)) (sym (call_view c.args.x.now))
    (number_given _ _ _ _ (subst (λ z. HasNumbers (call_asks z n)) (call_view c.args.x.now) c.requires).0 (subst (λ z. Gives c.args.self.now c.arguments.new.self (arguments_asks (t_arguments (arguments_of z)) n)) c.deref.ensures.value c.in_ok-arguments.ensures))

pub arguments-next-next-requires : goal.arguments-next-next-requires
arguments-next-next-requires t c =
    (subst HasNumbers (arguments_more c.loop-x.at.number c.args.all.now c.loop-x.x-index c.x-item.result c.loop-x-test.true c.x-item.is) c.loop-x.invariant.1).0

pub arguments-argument-requires : goal.arguments-argument-requires
arguments-argument-requires t c =
    let within = argument_within c.args.all.now c.loop-x.x-index c.x-item.result c.loop-x-test.true c.x-item.is in (
      omega (arith, within),
      (subst HasNumbers (arguments_more c.loop-x.at.number c.args.all.now c.loop-x.x-index c.x-item.result c.loop-x-test.true c.x-item.is) c.loop-x.invariant.1).1.0,
    )

pub arguments-loop-x-preserved : goal.arguments-loop-x-preserved
arguments-loop-x-preserved t c =
    let next = c.next-next.ensures.number in
    let rest = t_arguments (arguments_of (drop (c.loop-x.x-index + 1) c.args.all.now)) in
    let more = arguments_more c.loop-x.at.number c.args.all.now c.loop-x.x-index c.x-item.result c.loop-x-test.true c.x-item.is in (
      λ k g.
          c.loop-x.invariant.0 k
          (subst (λ a. Gives c.loop-x.self k a) (sym more)
          (both_given _ _ _ _ _ (rw next at c.next-next.ensures.gives) (both_given _ _ _ _ _ c.in_ok-argument.ensures (subst (λ m. Gives c.argument.new.self k (arguments_asks rest m)) next g)))),
      subst (λ m. HasNumbers (arguments_asks rest m)) (sym next) (subst HasNumbers more c.loop-x.invariant.1).1.1,
    )

pub arguments-returns : goal.arguments-returns
arguments-returns t c =
    c.loop-x.invariant.0 c.loop-x.self
    (subst (λ a. Gives c.loop-x.self c.loop-x.self a) (sym (arguments_end c.loop-x.at.number c.args.all.now c.loop-x.x-index c.loop-x-test.false)) (gives_none c.loop-x.self))

pub library-returns : goal.library-returns
library-returns t c = both_given _ _ _ _ _ c.in_ok-spare.ensures c.in_ok-values.ensures

pub values-next-next-requires : goal.values-next-next-requires
values-next-next-requires t c =
    let rs = library_rates c.args.function c.args.rate in
    (subst HasNumbers (values_more rs c.args.all.now c.loop-place.place c.loop-place.at.number c.index-all-place.result c.loop-place-test.true c.index-all-place.is) c.loop-place.invariant.1).0

pub values-operand-requires : goal.values-operand-requires
values-operand-requires t c =
    let rs = library_rates c.args.function c.args.rate in
    let within = value_within c.args.all.now c.loop-place.place c.index-all-place.result c.loop-place-test.true c.index-all-place.is in
    let more = values_more rs c.args.all.now c.loop-place.place c.loop-place.at.number c.index-all-place.result c.loop-place-test.true c.index-all-place.is in (
      omega (arith, within, c.decreases),
      subst (λ r. HasNumbers (operand_asks r (expr_of c.index-all-place.result) c.loop-place.at.number)) (sym c.value_rate-taken.ensures) (subst HasNumbers more c.loop-place.invariant.1).1.0,
    )

pub values-loop-place-preserved : goal.values-loop-place-preserved
values-loop-place-preserved t c =
    let next = c.next-next.ensures.number in
    let rs = library_rates c.args.function c.args.rate in
    let i = c.loop-place.place in
    let rest = t_exprs (exprs_of (drop (i + 1) c.args.all.now)) in
    let more = values_more rs c.args.all.now i c.loop-place.at.number c.index-all-place.result c.loop-place-test.true c.index-all-place.is in (
      λ k g.
          c.loop-place.invariant.0 k
          (subst (λ a. Gives c.loop-place.self k a) (sym more)
          (both_given _ _ _ _ _ (rw next at c.next-next.ensures.gives) (both_given _ _ _ _ _ (rw c.value_rate-taken.ensures at c.in_ok-operand.ensures) (subst (λ m. Gives c.operand.new.self k (values_asks (drop (i + 1) rs) rest m)) next g)))),
      subst (λ m. HasNumbers (values_asks (drop (i + 1) rs) rest m)) (sym next) (subst HasNumbers more c.loop-place.invariant.1).1.1,
    )

pub values-returns : goal.values-returns
values-returns t c =
    c.loop-place.invariant.0 c.loop-place.self
    (subst (λ a. Gives c.loop-place.self c.loop-place.self a) (sym (values_end (library_rates c.args.function c.args.rate) c.args.all.now c.loop-place.place c.loop-place.at.number c.loop-place-test.false)) (gives_none c.loop-place.self))
