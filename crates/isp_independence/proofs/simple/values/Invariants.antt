use Rattle.std.proofs.Common.{◌≡◌, drop}
use Rattle.isp_typed.specs.Views.{exprs_of}
use Rattle.isp_independence.specs.reader.Answers.{first_of, expr_answer, of_each}
use Rattle.isp_independence.proofs.simple.values.Given as goal

abbrev pub invariant-loop-value : goal.invariant-loop-value
invariant-loop-value l = first_of l.seen (of_each expr_answer (exprs_of (drop l.value-index l.all))) ≡ of_each expr_answer (exprs_of l.all)
