use Rattle.std.proofs.Common.{◌≡◌, ◌++◌, drop}
use Rattle.isp_typed.specs.Views.{ranges_of}
use Rattle.isp_known.specs.Notes.{range_notes, notes_of_each}
use Rattle.isp_known.proofs.simple.ranges.Given as goal

abbrev pub invariant-loop-r : goal.invariant-loop-r
invariant-loop-r l =
    l.found.items ++ notes_of_each (range_notes l.function) (ranges_of (drop l.r-index l.all))
    ≡ l.initial.found.items ++ notes_of_each (range_notes l.function) (ranges_of l.all)
