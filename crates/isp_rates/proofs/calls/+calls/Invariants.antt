use Rattle.std.proofs.Common.{◌≡◌, ◌++◌, drop}
use Rattle.isp_typed.specs.Typed.{t_arguments, t_exprs}
use Rattle.isp_typed.specs.Views.{arguments_of, exprs_of}
use Rattle.isp_independence.specs.Reaches.{arguments_calls, values_calls}
use Rattle.isp_rates.proofs.calls.+calls.Given as goal

abbrev pub invariant-call-loop-given : goal.invariant-call-loop-given
invariant-call-loop-given l = l.found.items ++ arguments_calls (t_arguments (arguments_of (drop l.given-index l.given-items))) ≡ l.initial.found.items ++ arguments_calls (t_arguments (arguments_of l.given-items))

abbrev pub invariant-expr-loop-value : goal.invariant-expr-loop-value
invariant-expr-loop-value l = l.found.items ++ values_calls (t_exprs (exprs_of (drop l.value-index l.value-items))) ≡ l.initial.found.items ++ values_calls (t_exprs (exprs_of l.value-items))
