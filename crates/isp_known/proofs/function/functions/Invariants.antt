use Rattle.std.proofs.Common.{◌≡◌, ◌++◌, drop}
use Rattle.isp_typed.specs.Views.{functions_of}
use Rattle.isp_known.specs.Notes.{functions_notes}
use Rattle.isp_known.proofs.function.functions.Given as goal

abbrev pub invariant-loop-number : goal.invariant-loop-number
invariant-loop-number l =
    l.found.items ++ functions_notes l.number (functions_of (drop l.number l.all)) ≡ l.initial.found.items ++ functions_notes 0 (functions_of l.all)
