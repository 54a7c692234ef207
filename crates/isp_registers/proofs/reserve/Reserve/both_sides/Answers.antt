use Rattle.isp_registers.proofs.Growing.{sides_given}
use Rattle.isp_registers.proofs.reserve.Reserve.both_sides.Goals as goal

pub returns : goal.returns
returns c =
    sides_given _ _ _ _ _ c.args.slot.number c.next-next.result.number _ c.next-next.ensures.number c.next.ensures.number
    c.next-next.ensures.gives c.next.ensures.gives c.mask.ensures c.mask-2.ensures
