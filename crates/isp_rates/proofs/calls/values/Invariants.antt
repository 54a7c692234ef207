use Rattle.std.proofs.Common.{◌≡◌, ◌++◌, drop}
use Rattle.isp_typed.specs.Views.{exprs_of}
use Rattle.isp_independence.specs.Reaches.{expr_calls, calls_of_each}
use Rattle.isp_rates.proofs.calls.values.Given as goal

abbrev pub invariant-loop-value : goal.invariant-loop-value
invariant-loop-value l = l.found.items ++ calls_of_each expr_calls (exprs_of (drop l.value-index l.all)) ≡ l.initial.found.items ++ calls_of_each expr_calls (exprs_of l.all)
