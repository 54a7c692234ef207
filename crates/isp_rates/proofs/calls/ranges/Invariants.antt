use Rattle.std.proofs.Common.{◌≡◌, ◌++◌, drop}
use Rattle.isp_typed.specs.Views.{ranges_of}
use Rattle.isp_independence.specs.Reaches.{range_calls, calls_of_each}
use Rattle.isp_rates.proofs.calls.ranges.Given as goal

abbrev pub invariant-loop-r : goal.invariant-loop-r
invariant-loop-r l = l.found.items ++ calls_of_each range_calls (ranges_of (drop l.r-index l.all)) ≡ l.initial.found.items ++ calls_of_each range_calls (ranges_of l.all)
