use Rattle.std.proofs.Common.{inl, inr}
use Rattle.std.proofs.lemmas.Result.{err_from_is_err_and}
use Rattle.isp_code_commands.proofs.texts.read_both.Goals as goal

pub returns-in_err-text-clause-err : goal.returns-in_err-text-clause-err
returns-in_err-text-clause-err g c =
    let p = err_from_is_err_and c.from_residual.result c.from_residual.ensures.1 in
    rw (p.1, p.2) (inl c.in_err-text.ensures.err)

pub returns-in_err-json-clause-err : goal.returns-in_err-json-clause-err
returns-in_err-json-clause-err g c =
    let p = err_from_is_err_and c.from_residual-in_err-json.result c.from_residual-in_err-json.ensures.1 in
    rw (p.1, p.2) (inr ((_, c.in_ok-text.ensures.ok), c.in_err-json.ensures.err))
