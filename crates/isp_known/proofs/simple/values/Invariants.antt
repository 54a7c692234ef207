use Rattle.std.proofs.Common.{◌≡◌, ◌++◌, drop}
use Rattle.isp_typed.specs.Views.{exprs_of}
use Rattle.isp_known.specs.Notes.{expr_notes, notes_of_each}
use Rattle.isp_known.proofs.simple.values.Given as goal

abbrev pub invariant-loop-value : goal.invariant-loop-value
invariant-loop-value l =
    l.found.items ++ notes_of_each (expr_notes l.function) (exprs_of (drop l.value-index l.all))
    ≡ l.initial.found.items ++ notes_of_each (expr_notes l.function) (exprs_of l.all)
