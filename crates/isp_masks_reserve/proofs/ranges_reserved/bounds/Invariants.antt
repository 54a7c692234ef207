-- Who is given what the ranges that are left ask for, is given what all ask for; the slots that are left are theirs, and their numbers can be had.
use Rattle.std.proofs.Common.{◌≡◌, ◌+◌, drop, length}
use Rattle.isp_typed.specs.Views.{ranges_of}
use Rattle.isp_lower_code.specs.Room.{HasNumbers}
use Rattle.isp_registers.specs.Reserved.{Gives}
use Rattle.isp_registers.specs.declared.reserve.Reserve.{Reserve}
use Rattle.isp_masks_code.specs.Asks.{bounds_asks}
use Rattle.isp_masks_reserve.proofs.ranges_reserved.bounds.Given as goal

abbrev pub invariant-loop-x : goal.invariant-loop-x
invariant-loop-x l =
    let left = ranges_of (drop l.x-index l.all) in
    ((c : Reserve) → Gives l.r c (bounds_asks left l.at.number) → Gives l.initial.r c (bounds_asks (ranges_of l.all) l.initial.at.number))
    × (l.at.number + length left + length left ≡ l.initial.at.number + length (ranges_of l.all) + length (ranges_of l.all))
    × HasNumbers (bounds_asks left l.at.number)
