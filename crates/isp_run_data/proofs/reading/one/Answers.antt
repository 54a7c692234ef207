use Rattle.std.proofs.lemmas.Result.{err_from_is_err_and}
use Rattle.isp_run_data.proofs.reading.one.Goals as goal

pub returns-in_err-content-clause-err : goal.returns-in_err-content-clause-err
returns-in_err-content-clause-err g c =
    let p = err_from_is_err_and c.from_residual.result c.from_residual.ensures.1 in
    rw (p.1, p.2) (λ q. c.in_err-content.ensures.err q c.in-Some-Some-default.field-0-0 c.in-Some-Some-default.ensures)
