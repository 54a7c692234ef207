use Rattle.std.proofs.Common.{◌≡◌, drop, map}
use Rattle.isp_typed.specs.Views.{exprs_of}
use Rattle.isp_alike.specs.Bare.{bare_expr}
use Rattle.isp_alike.proofs.simple.same_values.Given as goal

abbrev pub invariant-loop-x : goal.invariant-loop-x
invariant-loop-x l = map bare_expr (exprs_of (drop l.x-index l.xs)) ≡ map bare_expr (exprs_of l.rest) → map bare_expr (exprs_of l.xs) ≡ map bare_expr (exprs_of l.ys)
