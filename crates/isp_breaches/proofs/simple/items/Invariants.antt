use Rattle.std.proofs.Common.{◌≡◌, ◌++◌, drop}
use Rattle.isp_typed.specs.Views.{items_of, functions_of}
use Rattle.isp_breaches.specs.reader.Lists.{item_faults, of_each}
use Rattle.isp_breaches.proofs.simple.items.Given as goal

abbrev pub invariant-loop-declared : goal.invariant-loop-declared
invariant-loop-declared l =
    l.found.items ++ of_each (item_faults (functions_of l.functions)) (items_of (drop l.declared-index l.all))
    ≡ l.initial.found.items ++ of_each (item_faults (functions_of l.functions)) (items_of l.all)
