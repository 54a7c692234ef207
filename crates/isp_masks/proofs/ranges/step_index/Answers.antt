use Rattle.std.proofs.Common.{◌∙◌, ◌+◌, [], ◌∷◌, Bool, ap, ap₂, subst, sym}
use Rattle.isp_base.specs.declared.types.Rate.TheVariants.{Varying}
use Rattle.isp_code.specs.declared.instr.Instr.TheVariants as instr
use Rattle.isp_code.specs.declared.instr.Plain.TheVariants as plain
use Rattle.isp_lower_code.specs.Instructions.{compute}
use Rattle.isp_lower.proofs.Lemmas.{landed}
use Rattle.isp_lower.specs.Emitted.{Appends, layout}
use Rattle.isp_registers.specs.declared.numbered.MaskNumber.{MaskNumber}
use Rattle.isp_registers.specs.declared.numbered.Slot.{Slot}
use Rattle.isp_masks_code.specs.Ranges.{index_step, lane, next_index}
use Rattle.isp_masks.proofs.ranges.step_index.Goals as goal

pub returns-clause-added : goal.returns-clause-added
returns-clause-added c =
    let a = c.args in
    let l = layout a.on.now in
    let n = a.it.measures.number in
    let h = a.it.masks.number in
    let lanes = c.lane.ensures ∙ ap (λ (s : Slot). lane l s.number) c.next.ensures in
    let is =
    c.added_lanes.ensures
    ∙ ap₂ (λ v u. compute Varying plain.Add v v u c.mask.result.number) c.index-own.ensures lanes
    ∙ ap (λ (k : MaskNumber). compute Varying plain.Add (l.variable Varying a.variable) (l.variable Varying a.variable) (lane l (n + 1)) k.number) c.mask.ensures in
    let step = subst (λ i. Appends c.push.new.self c.push-2.new.self (λ pc p. i ∷ []) []) is c.in_ok-push-2.ensures in
    subst (λ (al : Bool). Appends a.b.now c.land_always.new.self (λ pc p. index_step l al a.variable n h pc) []) (sym c.if-not-alone.false)
    (landed a.b.now c.push.new.self c.push-2.new.self c.land_always.new.self c.next-at.result (instr.Jump 0) instr.Jump (λ pc p. next_index l a.variable n h ∷ []) []
    c.next-at.ensures c.in_ok-push.ensures step c.land_always.ensures.code c.land_always.ensures.places c.land_always.ensures.texts)
