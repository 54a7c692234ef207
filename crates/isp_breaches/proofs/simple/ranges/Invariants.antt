use Rattle.std.proofs.Common.{◌≡◌, ◌++◌, drop}
use Rattle.isp_typed.specs.Views.{ranges_of, functions_of}
use Rattle.isp_breaches.specs.reader.Lists.{range_faults, of_each}
use Rattle.isp_breaches.proofs.simple.ranges.Given as goal

abbrev pub invariant-loop-r : goal.invariant-loop-r
invariant-loop-r l =
    l.found.items ++ of_each (range_faults (functions_of l.functions)) (ranges_of (drop l.r-index l.all))
    ≡ l.initial.found.items ++ of_each (range_faults (functions_of l.functions)) (ranges_of l.all)
