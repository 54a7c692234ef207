use Rattle.std.proofs.lemmas.Result.{err_from_is_err_and}
use Rattle.isp_grammar.specs.reader.Stmts.{print_at}
use Rattle.isp_grammar.proofs.SimpleSteps.{fails_then}
use Rattle.isp_grammar.proofs.single.print_stmt.Goals as goal

pub returns-in_err-_open-clause-value : goal.returns-in_err-_open-clause-value
unfolding print_at
returns-in_err-_open-clause-value c =
    let p = err_from_is_err_and c.from_residual.result c.from_residual.ensures.1 in
    rw (p.1, p.2) (fails_then c.in_err-_open.field-0.0 _ _ (fails_then c.in_err-_open.field-0.0 _ _ c.in_err-_open.ensures.value))

pub returns-in_err-text-clause-value : goal.returns-in_err-text-clause-value
unfolding print_at
returns-in_err-text-clause-value c =
    let p = err_from_is_err_and c.from_residual-in_err-text.result c.from_residual-in_err-text.ensures.1 in
    rw (p.1, p.2, c.in_ok-_open.ensures.value) (fails_then c.in_err-text.field-0.0 _ _ (fails_then c.in_err-text.field-0.0 _ _ (fails_then c.in_err-text.field-0.0 _ _ c.in_err-text.ensures.value)))

pub returns-in_err-values-clause-value : goal.returns-in_err-values-clause-value
unfolding print_at
returns-in_err-values-clause-value c =
    let p = err_from_is_err_and c.from_residual-in_err-values.result c.from_residual-in_err-values.ensures.1 in
    rw (p.1, p.2, c.in_ok-_open.ensures.value, c.in_ok-text.ensures.value) (fails_then c.in_err-values.field-0.0 _ _ (fails_then c.in_err-values.field-0.0 _ _ (fails_then c.in_err-values.field-0.0 _ _ c.in_err-values.ensures.value)))
