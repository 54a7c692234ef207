use Rattle.std.proofs.Common.{◌≡◌, drop}
use Rattle.isp_typed.specs.Typed.{t_arguments, t_exprs}
use Rattle.isp_typed.specs.Views.{arguments_of, exprs_of}
use Rattle.isp_alike.specs.Bare.{bare_arguments, bare_exprs}
use Rattle.isp_alike.proofs.expr.+expr.Given as goal

abbrev pub invariant-same_call-loop-given : goal.invariant-same_call-loop-given
invariant-same_call-loop-given l =
    bare_arguments (t_arguments (arguments_of (drop l.given-index l.given-items))) ≡ bare_arguments (t_arguments (arguments_of l.rest))
    → bare_arguments (t_arguments (arguments_of l.given-items)) ≡ bare_arguments (t_arguments (arguments_of l.initial.rest))

abbrev pub invariant-same_exprs-loop-value : goal.invariant-same_exprs-loop-value
invariant-same_exprs-loop-value l =
    bare_exprs (t_exprs (exprs_of (drop l.value-index l.xs))) ≡ bare_exprs (t_exprs (exprs_of l.rest))
    → bare_exprs (t_exprs (exprs_of l.xs)) ≡ bare_exprs (t_exprs (exprs_of l.ys))
