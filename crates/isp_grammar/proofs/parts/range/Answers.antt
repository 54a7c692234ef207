use Rattle.std.proofs.lemmas.Result.{err_from_is_err_and}
use Rattle.isp_grammar.specs.reader.Stmts.{range_at}
use Rattle.isp_grammar.proofs.SimpleSteps.{fails_then}
use Rattle.isp_grammar.proofs.parts.range.Goals as goal

pub returns-in_err-word-clause-value : goal.returns-in_err-word-clause-value
unfolding range_at
returns-in_err-word-clause-value c =
    let p = err_from_is_err_and c.from_residual.result c.from_residual.ensures.1 in
    rw (p.1, p.2) (fails_then c.in_err-word.field-0.0 _ _ (fails_then c.in_err-word.field-0.0 _ _ c.in_err-word.ensures.value))

pub returns-in_err-start-clause-value : goal.returns-in_err-start-clause-value
unfolding range_at
returns-in_err-start-clause-value c =
    let p = err_from_is_err_and c.from_residual-in_err-start.result c.from_residual-in_err-start.ensures.1 in
    rw (p.1, p.2, c.in_ok-word.ensures.value) (fails_then c.in_err-start.field-0.0 _ _ (fails_then c.in_err-start.field-0.0 _ _ (fails_then c.in_err-start.field-0.0 _ _ c.in_err-start.ensures.value)))

pub returns-in_err-end-clause-value : goal.returns-in_err-end-clause-value
unfolding range_at
returns-in_err-end-clause-value c =
    let p = err_from_is_err_and c.from_residual-in_err-end.result c.from_residual-in_err-end.ensures.1 in
    rw (p.1, p.2, c.in_ok-word.ensures.value, c.in_ok-start.ensures.value) (fails_then c.in_err-end.field-0.0 _ _ (fails_then c.in_err-end.field-0.0 _ _ (fails_then c.in_err-end.field-0.0 _ _ c.in_err-end.ensures.value)))
