use Rattle.std.proofs.lemmas.Result.{err_from_is_err_and}
use Rattle.isp_grammar.specs.reader.Stmts.{closed_test_at}
use Rattle.isp_grammar.proofs.SimpleSteps.{fails_then}
use Rattle.isp_grammar.proofs.parts.closed_test.Goals as goal

pub returns-in_err-_open-clause-value : goal.returns-in_err-_open-clause-value
unfolding closed_test_at
returns-in_err-_open-clause-value c =
    let p = err_from_is_err_and c.from_residual.result c.from_residual.ensures.1 in
    rw (p.1, p.2) (fails_then c.in_err-_open.field-0.0 _ _ (fails_then c.in_err-_open.field-0.0 _ _ c.in_err-_open.ensures.value))

pub returns-in_err-value-clause-value : goal.returns-in_err-value-clause-value
unfolding closed_test_at
returns-in_err-value-clause-value c =
    let p = err_from_is_err_and c.from_residual-in_err-value.result c.from_residual-in_err-value.ensures.1 in
    rw (p.1, p.2, c.in_ok-_open.ensures.value) (fails_then c.in_err-value.field-0.0 _ _ (fails_then c.in_err-value.field-0.0 _ _ (fails_then c.in_err-value.field-0.0 _ _ c.in_err-value.ensures.value)))
