-- Who is given what the constants that are left ask for, is given what all ask for; and its mask can be had.
use Rattle.std.proofs.Common.{drop}
use Rattle.isp_lower_code.specs.Room.{HasNumbers}
use Rattle.isp_registers.specs.Reserved.{Gives}
use Rattle.isp_registers.specs.declared.reserve.Reserve.{Reserve}
use Rattle.isp_masks_code.specs.Keeping.{constants_asks}
use Rattle.isp_masks.proofs.keeping.reserved.Given as goal

abbrev pub invariant-loop-x : goal.invariant-loop-x
invariant-loop-x l =
    ((c : Reserve) → Gives l.r c (constants_asks l.slot.number (drop l.x-index l.all)) → Gives l.initial.r c (constants_asks l.slot.number l.all))
    × HasNumbers (constants_asks l.slot.number (drop l.x-index l.all))
