-- Who is given what the values that are left ask for, is given what all ask for; and their numbers can be had.
use Rattle.std.proofs.Common.{drop}
use Rattle.isp_lower_code.specs.Room.{HasNumbers}
use Rattle.isp_registers.specs.Reserved.{Gives}
use Rattle.isp_registers.specs.declared.reserve.Reserve.{Reserve}
use Rattle.isp_masks_code.proofs.Lemmas.{asked}
use Rattle.isp_masks_reserve.proofs.reserved.printed.Given as goal

abbrev pub invariant-loop-x : goal.invariant-loop-x
invariant-loop-x l =
    ((c : Reserve) → Gives l.r c (asked (drop l.x-index l.all) l.at.number) → Gives l.initial.r c (asked l.all l.initial.at.number)) × HasNumbers (asked (drop l.x-index l.all) l.at.number)
