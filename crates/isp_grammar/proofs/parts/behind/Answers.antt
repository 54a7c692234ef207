use Rattle.std.proofs.lemmas.Result.{err_from_is_err_and}
use Rattle.isp_grammar.specs.reader.Stmts.{behind_at}
use Rattle.isp_grammar.proofs.SimpleSteps.{fails_then}
use Rattle.isp_grammar.proofs.parts.behind.Goals as goal

pub returns-in_err-_sign-clause-value : goal.returns-in_err-_sign-clause-value
unfolding behind_at
returns-in_err-_sign-clause-value c =
    let p = err_from_is_err_and c.from_residual.result c.from_residual.ensures.1 in
    rw (p.1, p.2) (fails_then c.in_err-_sign.field-0.0 _ _ (fails_then c.in_err-_sign.field-0.0 _ _ c.in_err-_sign.ensures.value))

pub returns-in_err-value-clause-value : goal.returns-in_err-value-clause-value
unfolding behind_at
returns-in_err-value-clause-value c =
    let p = err_from_is_err_and c.from_residual-in_err-value.result c.from_residual-in_err-value.ensures.1 in
    rw (p.1, p.2, c.in_ok-_sign.ensures.value) (fails_then c.in_err-value.field-0.0 _ _ (fails_then c.in_err-value.field-0.0 _ _ c.in_err-value.ensures.value))
