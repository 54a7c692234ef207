use Rattle.std.proofs.Common.{◌≡◌, ◌++◌, drop}
use Rattle.isp_typed.specs.Views.{functions_of}
use Rattle.isp_hints.specs.Loops.{functions_hints}
use Rattle.isp_hints.proofs.loops.functions.Given as goal

abbrev pub invariant-loop-one : goal.invariant-loop-one
invariant-loop-one l =
    l.found.items ++ functions_hints l.gang (functions_of (drop l.one-index l.all)) ≡ l.initial.found.items ++ functions_hints l.gang (functions_of l.all)
