use Rattle.std.proofs.Common.{sym, subst}
use Rattle.isp_lower_code.specs.Room.{HasNumbers}
use Rattle.isp_registers.specs.Reserved.{Gives}
use Rattle.isp_registers.proofs.Growing.{items_more, items_end, both_given, gives_none}
use Rattle.isp_registers.proofs.reserve.Reserve.items.Goals as goal

pub item-requires : goal.item-requires
item-requires c = (subst HasNumbers (items_more c.args.slot.number c.args.all.now c.loop-x.x-index c.x-item.result c.loop-x-test.true c.x-item.is) c.loop-x.invariant.1).0

pub loop-x-preserved : goal.loop-x-preserved
loop-x-preserved c =
    let more = items_more c.args.slot.number c.args.all.now c.loop-x.x-index c.x-item.result c.loop-x-test.true c.x-item.is in (
      λ k g. c.loop-x.invariant.0 k (subst (λ a. Gives c.loop-x.self k a) (sym more) (both_given c.loop-x.self c.item.new.self k _ _ c.in_ok-item.ensures g)),
      (subst HasNumbers more c.loop-x.invariant.1).1,
    )

pub returns : goal.returns
returns c =
    c.loop-x.invariant.0 c.loop-x.self
    (subst (λ a. Gives c.loop-x.self c.loop-x.self a) (sym (items_end c.args.slot.number c.args.all.now c.loop-x.x-index c.loop-x-test.false)) (gives_none c.loop-x.self))
