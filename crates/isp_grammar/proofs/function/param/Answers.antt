use Rattle.std.proofs.lemmas.Result.{err_from_is_err_and}
use Rattle.isp_grammar.specs.reader.Programs.{param_at}
use Rattle.isp_grammar.proofs.SimpleSteps.{fails_then}
use Rattle.isp_grammar.proofs.function.param.Goals as goal

pub returns-in_err-ty-clause-value : goal.returns-in_err-ty-clause-value
unfolding param_at
returns-in_err-ty-clause-value c =
    let p = err_from_is_err_and c.from_residual.result c.from_residual.ensures.1 in
    rw (p.1, p.2) (fails_then c.in_err-ty.field-0.0 _ _ (fails_then c.in_err-ty.field-0.0 _ _ c.in_err-ty.ensures.value))

pub returns-in_err-word-clause-value : goal.returns-in_err-word-clause-value
unfolding param_at
returns-in_err-word-clause-value c =
    let p = err_from_is_err_and c.from_residual-in_err-word.result c.from_residual-in_err-word.ensures.1 in
    rw (p.1, p.2, c.in_ok-ty.ensures.value) (fails_then c.in_err-word.field-0.0 _ _ (fails_then c.in_err-word.field-0.0 _ _ (fails_then c.in_err-word.field-0.0 _ _ c.in_err-word.ensures.value)))

pub returns-in_err-sign-clause-value : goal.returns-in_err-sign-clause-value
unfolding param_at
returns-in_err-sign-clause-value c =
    let p = err_from_is_err_and c.from_residual-in_err-sign.result c.from_residual-in_err-sign.ensures.1 in
    rw (p.1, p.2, c.in_ok-ty.ensures.value, c.in_ok-word.ensures.value) (fails_then c.in_err-sign.field-0.0 _ _ (fails_then c.in_err-sign.field-0.0 _ _ (fails_then c.in_err-sign.field-0.0 _ _ c.in_err-sign.ensures.value)))
