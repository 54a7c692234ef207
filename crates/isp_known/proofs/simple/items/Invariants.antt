use Rattle.std.proofs.Common.{◌≡◌, ◌++◌, drop}
use Rattle.isp_typed.specs.Views.{items_of}
use Rattle.isp_known.specs.Notes.{item_notes, notes_of_each}
use Rattle.isp_known.proofs.simple.items.Given as goal

abbrev pub invariant-loop-one : goal.invariant-loop-one
invariant-loop-one l =
    l.found.items ++ notes_of_each (item_notes l.function) (items_of (drop l.one-index l.all))
    ≡ l.initial.found.items ++ notes_of_each (item_notes l.function) (items_of l.all)
