use Rattle.std.proofs.Common.{◌≡◌, ◌++◌, drop, map}
use Rattle.isp_typed.specs.Views.{functions_of}
use Rattle.isp_independence.specs.Reaches.{function_calls}
use Rattle.isp_independence.specs.Tables.{lists_of}
use Rattle.isp_rates.proofs.calls.table.Given as goal

abbrev pub invariant-loop-one : goal.invariant-loop-one
invariant-loop-one l = lists_of l.calls.items ++ map function_calls (functions_of (drop l.one-index l.functions)) ≡ map function_calls (functions_of l.functions)
