use Rattle.std.proofs.Common.{◌≡◌, ◌++◌, drop}
use Rattle.isp_typed.specs.Views.{exprs_of, functions_of}
use Rattle.isp_breaches.specs.reader.Lists.{expr_faults, of_each}
use Rattle.isp_breaches.proofs.simple.values.Given as goal

abbrev pub invariant-loop-value : goal.invariant-loop-value
invariant-loop-value l =
    l.found.items ++ of_each (expr_faults (functions_of l.functions)) (exprs_of (drop l.value-index l.all))
    ≡ l.initial.found.items ++ of_each (expr_faults (functions_of l.functions)) (exprs_of l.all)
