use Rattle.std.proofs.Common.{◌≡◌, ◌++◌, drop}
use Rattle.isp_known.specs.Notes.{params_notes}
use Rattle.isp_known.proofs.function.params.Given as goal

abbrev pub invariant-loop-number : goal.invariant-loop-number
invariant-loop-number l =
    l.found.items ++ params_notes l.function l.number (drop l.number l.spans) ≡ l.initial.found.items ++ params_notes l.function 0 l.spans
