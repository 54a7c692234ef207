use Rattle.std.proofs.Common.{inl, inr}
use Rattle.std.proofs.lemmas.Result.{err_from_is_err_and}
use Rattle.isp_code_commands.proofs.native.code_of.Goals as goal

pub returns-in_err-text-clause-err : goal.returns-in_err-text-clause-err
returns-in_err-text-clause-err g c =
    let p = err_from_is_err_and c.from_residual.result c.from_residual.ensures.1 in
    rw (p.1, p.2) (inl c.in_err-text.ensures.err)

pub returns-in_err-image-clause-err : goal.returns-in_err-image-clause-err
returns-in_err-image-clause-err g c =
    let p = err_from_is_err_and c.from_residual-in_err-image.result c.from_residual-in_err-image.ensures.1 in
    rw (p.1, p.2) (inr (c.as_str.result.now, rw c.as_str.ensures.value c.in_ok-text.ensures.ok, c.in_err-image.ensures.err))

pub returns-clause-ok : goal.returns-clause-ok
returns-clause-ok g c = record { text = c.as_str.result.now; has_text = rw c.as_str.ensures.value c.in_ok-text.ensures.ok; gives = c.in_ok-image.ensures.ok }
