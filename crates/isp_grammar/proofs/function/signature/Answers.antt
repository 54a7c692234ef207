use Rattle.std.proofs.lemmas.Result.{err_from_is_err_and}
use Rattle.isp_grammar.specs.reader.Programs.{signature_at}
use Rattle.isp_grammar.proofs.SimpleSteps.{fails_then}
use Rattle.isp_grammar.proofs.function.signature.Goals as goal

pub returns-in_err-linkages-clause-value : goal.returns-in_err-linkages-clause-value
unfolding signature_at
returns-in_err-linkages-clause-value c =
    let p = err_from_is_err_and c.from_residual.result c.from_residual.ensures.1 in
    rw (p.1, p.2) (fails_then c.in_err-linkages.field-0.0 _ _ (fails_then c.in_err-linkages.field-0.0 _ _ c.in_err-linkages.ensures.value))

pub returns-in_err-result-clause-value : goal.returns-in_err-result-clause-value
unfolding signature_at
returns-in_err-result-clause-value c =
    let p = err_from_is_err_and c.from_residual-in_err-result.result c.from_residual-in_err-result.ensures.1 in
    rw (p.1, p.2, c.in_ok-linkages.ensures.value) (fails_then c.in_err-result.field-0.0 _ _ (fails_then c.in_err-result.field-0.0 _ _ (fails_then c.in_err-result.field-0.0 _ _ c.in_err-result.ensures.value)))

pub returns-in_err-word-clause-value : goal.returns-in_err-word-clause-value
unfolding signature_at
returns-in_err-word-clause-value c =
    let p = err_from_is_err_and c.from_residual-in_err-word.result c.from_residual-in_err-word.ensures.1 in
    rw (p.1, p.2, c.in_ok-linkages.ensures.value, c.in_ok-result.ensures.value)
    (fails_then c.in_err-word.field-0.0 _ _ (fails_then c.in_err-word.field-0.0 _ _
    (fails_then c.in_err-word.field-0.0 _ _ (fails_then c.in_err-word.field-0.0 _ _ c.in_err-word.ensures.value))))

pub returns-in_err-_open-clause-value : goal.returns-in_err-_open-clause-value
unfolding signature_at
returns-in_err-_open-clause-value c =
    let p = err_from_is_err_and c.from_residual-in_err-_open.result c.from_residual-in_err-_open.ensures.1 in
    rw (p.1, p.2, c.in_ok-linkages.ensures.value, c.in_ok-result.ensures.value, c.in_ok-word.ensures.value)
    (fails_then c.in_err-_open.field-0.0 _ _ (fails_then c.in_err-_open.field-0.0 _ _
    (fails_then c.in_err-_open.field-0.0 _ _ (fails_then c.in_err-_open.field-0.0 _ _ c.in_err-_open.ensures.value))))
