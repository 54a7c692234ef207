use Rattle.isp_lower_code.specs.Asks.{MaskOf}
use Rattle.isp_registers.specs.Reserved.{Gives}
use Rattle.isp_registers.specs.declared.numbered.Slot.{Slot}
use Rattle.isp_registers.proofs.Lemmas.{both_given}
use Rattle.std.proofs.Common.{◌+◌, subst}
use Rattle.isp_masks_reserve.proofs.Reserving.{number_reserved}
use Rattle.isp_masks_reserve.proofs.reserved.own.Goals as goal

pub returns-clause-gives : goal.returns-clause-gives
returns-clause-gives c =
    let n = c.args.slot.number in
    let second = subst (λ (s : Slot). Gives c.mask.new.self c.mask-2.new.self (MaskOf s.number)) c.plus.ensures c.mask-2.ensures in
    let third = subst (λ (s : Slot). Gives c.mask-2.new.self c.mask-3.new.self (MaskOf s.number)) c.plus-2.ensures c.mask-3.ensures in
    both_given _ _ _ _ _ (number_reserved c.args.r.now (n + 3) c.requires.0) (both_given _ _ _ _ _ c.mask.ensures (both_given _ _ _ _ _ second third))
