use Rattle.std.proofs.Common.{◌≡◌, ◌++◌, drop}
use Rattle.isp_typed.specs.Views.{items_of}
use Rattle.isp_independence.specs.Reaches.{item_calls, calls_of_each}
use Rattle.isp_rates.proofs.calls.items.Given as goal

abbrev pub invariant-loop-declared : goal.invariant-loop-declared
invariant-loop-declared l = l.found.items ++ calls_of_each item_calls (items_of (drop l.declared-index l.all)) ≡ l.initial.found.items ++ calls_of_each item_calls (items_of l.all)
