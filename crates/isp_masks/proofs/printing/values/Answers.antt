use Rattle.std.proofs.Common.{◌≡◌, ◌+◌, ◌∙◌, List, [], ◌∷◌, ◌++◌, drop, ap, sym, subst}
use Rattle.isp_base.specs.declared.types.Ty.{Ty}
use Rattle.isp_typed.specs.Typed.{type_of}
use Rattle.isp_typed.specs.Views.{expr_of, exprs_of}
use Rattle.isp_lower_code.specs.Asks.{operand_asks}
use Rattle.isp_lower_code.specs.Code.{expr_code}
use Rattle.isp_lower_code.specs.Found.{operand, operand_of}
use Rattle.isp_lower_code.specs.Spans.{expr_places}
use Rattle.isp_lower.specs.Emitted.{Appends, Present, layout}
use Rattle.isp_registers.specs.declared.numbered.Slot.{Slot}
use Rattle.isp_masks.specs.Printed.{rates_of, registers_of}
use Rattle.isp_masks_code.specs.Prints.{own_rates}
use Rattle.isp_masks_code.proofs.Lemmas.{asked, asked_more}
use Rattle.isp_masks.specs.declared.printing.Shown.{Shown}
use Rattle.isp_masks.proofs.Telling.{code_end, code_more, code_of, places_of, rates_end, rates_more, registers, registers_end, registers_more}
use Rattle.isp_masks.proofs.printing.values.Goals as goal

pub loop-x-preserved : goal.loop-x-preserved
loop-x-preserved c =
    let on = c.args.on.now in
    let l = layout on in
    let xs = c.args.all.now in
    let i = c.loop-x.x-index in
    let x = c.x-item.result in
    let k = c.args.site.mask.number in
    let m = c.loop-x.slot.number in
    let lt = c.loop-x-test.true in
    let is = c.x-item.is in
    let rate : c.ty-rate.result.rate ≡ (type_of (expr_of x)).rate = ap (λ (t : Ty). t.rate) c.ty-rate.ensures in
    let written = subst (λ r. Appends c.loop-x.b c.operand.new.b (λ pc p. operand_of l r (expr_of x) k m (expr_code l (expr_of x) pc p k m)) (expr_places l (expr_of x))) rate c.in_ok-register.ensures.code in
    let kept = c.in_ok-register.ensures.register ∙ ap (λ r. operand l r (expr_of x) m) rate in
    let next = c.next-slot.ensures in
    let rest = drop (i + 1) xs in
    let s : Shown = record { rate = c.ty-rate.result.rate; register = c.in_ok-register.register } in (
      λ h y. c.loop-x.invariant.0 h (code_more l xs i k m x c.loop-x.b c.operand.new.b h lt is written (subst (λ (z : Slot). Appends c.operand.new.b h (code_of l rest k z.number) (places_of l rest)) next y)),
      subst (λ (z : Slot). Present on (asked rest z.number)) (sym next) (subst (Present on) (asked_more xs i m x lt is) c.loop-x.invariant.1).1.1,
      ap (λ (ds : List Shown). rates_of ds ++ own_rates (exprs_of rest)) c.in_ok-push.ensures.items ∙ rates_more xs i x c.loop-x.shown.items s _ lt is rate c.loop-x.invariant.2,
      ap (λ (ds : List Shown). registers_of ds ++ registers l rest c.next-slot.result.number) c.in_ok-push.ensures.items
          ∙ ap (λ (z : Slot). registers_of (c.loop-x.shown.items ++ s ∷ []) ++ registers l rest z.number) next
          ∙ registers_more l xs i m x c.loop-x.shown.items s _ lt is kept c.loop-x.invariant.3,
    )

pub operand-requires : goal.operand-requires
operand-requires c =
    let on = c.args.on.now in
    let xs = c.args.all.now in
    let i = c.loop-x.x-index in
    let x = c.x-item.result in
    let m = c.loop-x.slot.number in
    let asks = subst (Present on) (asked_more xs i m x c.loop-x-test.true c.x-item.is) c.loop-x.invariant.1 in
    subst (λ r. Present on (operand_asks r (expr_of x) m)) (sym (ap (λ (t : Ty). t.rate) c.ty-rate.ensures)) asks.1.0

pub next-slot-requires : goal.next-slot-requires
next-slot-requires c = (subst (Present c.args.on.now) (asked_more c.args.all.now c.loop-x.x-index c.loop-x.slot.number c.x-item.result c.loop-x-test.true c.x-item.is) c.loop-x.invariant.1).0

pub returns-clause-rates : goal.returns-clause-rates
returns-clause-rates c = rates_end c.args.all.now c.loop-x.x-index c.loop-x.shown.items _ c.loop-x-test.false c.loop-x.invariant.2

pub returns-clause-registers : goal.returns-clause-registers
returns-clause-registers c = registers_end (layout c.args.on.now) c.args.all.now c.loop-x.x-index c.loop-x.slot.number c.loop-x.shown.items _ c.loop-x-test.false c.loop-x.invariant.3

pub returns-clause-code : goal.returns-clause-code
returns-clause-code c = c.loop-x.invariant.0 c.loop-x.b (code_end (layout c.args.on.now) c.args.all.now c.loop-x.x-index c.args.site.mask.number c.loop-x.slot.number c.loop-x.b c.loop-x-test.false)
