use Rattle.std.proofs.Common.{◌≡◌, drop}
use Rattle.isp_typed.specs.Typed.{t_arguments, t_exprs}
use Rattle.isp_typed.specs.Views.{arguments_of, exprs_of}
use Rattle.isp_independence.specs.reader.Answers.{first_of, arguments_answer, values_answer}
use Rattle.isp_independence.proofs.crossing.+expr.Given as goal

abbrev pub invariant-call-loop-given : goal.invariant-call-loop-given
invariant-call-loop-given l =
    first_of l.seen (arguments_answer (t_arguments (arguments_of (drop l.given-index l.given-items)))) ≡ arguments_answer (t_arguments (arguments_of l.given-items))

abbrev pub invariant-expr-loop-value : goal.invariant-expr-loop-value
invariant-expr-loop-value l =
    first_of l.seen (values_answer (t_exprs (exprs_of (drop l.value-index l.value-items)))) ≡ values_answer (t_exprs (exprs_of l.value-items))
