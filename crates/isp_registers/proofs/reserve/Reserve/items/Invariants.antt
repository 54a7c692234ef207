use Rattle.std.proofs.Common.{drop}
use Rattle.isp_typed.specs.Views.{items_of}
use Rattle.isp_lower_code.specs.Asks.{items_asks}
use Rattle.isp_lower_code.specs.Room.{HasNumbers}
use Rattle.isp_registers.specs.Reserved.{Gives}
use Rattle.isp_registers.specs.declared.reserve.Reserve.{Reserve}
use Rattle.isp_registers.proofs.reserve.Reserve.items.Given as goal

-- who is given what the items that are left ask for, is given what all ask for; and their numbers are small
abbrev pub invariant-loop-x : goal.invariant-loop-x
invariant-loop-x l =
    ((c : Reserve) → Gives l.self c (items_asks l.slot.number (items_of (drop l.x-index l.all))) → Gives l.initial.self c (items_asks l.slot.number (items_of l.all)))
    × HasNumbers (items_asks l.slot.number (items_of (drop l.x-index l.all)))
