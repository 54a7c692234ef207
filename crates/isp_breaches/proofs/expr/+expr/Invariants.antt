use Rattle.std.proofs.Common.{◌≡◌, ◌++◌, drop}
use Rattle.isp_typed.specs.Typed.{t_arguments, t_exprs}
use Rattle.isp_typed.specs.Views.{arguments_of, exprs_of, functions_of}
use Rattle.isp_breaches.specs.reader.Lists.{arguments_faults, values_faults}
use Rattle.isp_breaches.proofs.expr.+expr.Given as goal

abbrev pub invariant-call-loop-place : goal.invariant-call-loop-place
invariant-call-loop-place l =
    l.found.items ++ arguments_faults (functions_of l.functions) (drop l.place l.parameters) (t_arguments (arguments_of (drop l.place l.given-items)))
    ≡ l.initial.found.items ++ arguments_faults (functions_of l.functions) l.parameters (t_arguments (arguments_of l.given-items))

abbrev pub invariant-expr-loop-place : goal.invariant-expr-loop-place
invariant-expr-loop-place l =
    l.found.items ++ values_faults (functions_of l.functions) (drop l.place l.parts) (t_exprs (exprs_of (drop l.place l.value-items)))
    ≡ l.initial.found.items ++ values_faults (functions_of l.functions) l.parts (t_exprs (exprs_of l.value-items))
