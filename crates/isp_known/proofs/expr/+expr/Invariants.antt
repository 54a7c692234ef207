use Rattle.std.proofs.Common.{◌≡◌, ◌++◌, drop}
use Rattle.isp_typed.specs.Typed.{t_arguments, t_exprs}
use Rattle.isp_typed.specs.Views.{arguments_of, exprs_of}
use Rattle.isp_known.specs.Notes.{arguments_notes, values_notes}
use Rattle.isp_known.proofs.expr.+expr.Given as goal

abbrev pub invariant-call-loop-given : goal.invariant-call-loop-given
invariant-call-loop-given l =
    l.found.items ++ arguments_notes l.function (t_arguments (arguments_of (drop l.given-index l.given-items)))
    ≡ l.initial.found.items ++ arguments_notes l.function (t_arguments (arguments_of l.given-items))

abbrev pub invariant-expr-loop-part : goal.invariant-expr-loop-part
invariant-expr-loop-part l =
    l.found.items ++ values_notes l.function (t_exprs (exprs_of (drop l.part-index l.part-items)))
    ≡ l.initial.found.items ++ values_notes l.function (t_exprs (exprs_of l.part-items))
