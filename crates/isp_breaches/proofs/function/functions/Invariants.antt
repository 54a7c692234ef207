use Rattle.std.proofs.Common.{◌≡◌, ◌++◌, drop}
use Rattle.isp_typed.specs.Views.{functions_of}
use Rattle.isp_breaches.specs.reader.Lists.{function_faults, of_each}
use Rattle.isp_breaches.proofs.function.functions.Given as goal

abbrev pub invariant-loop-one : goal.invariant-loop-one
invariant-loop-one l =
    l.found.items ++ of_each (function_faults (functions_of l.functions)) (functions_of (drop l.one-index l.functions))
    ≡ l.initial.found.items ++ of_each (function_faults (functions_of l.functions)) (functions_of l.functions)
