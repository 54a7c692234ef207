use Rattle.std.proofs.lemmas.Result.{err_from_is_err_and}
use Rattle.isp_run_data.proofs.reading.content_of.Goals as goal

pub returns-in_err-text_of-in-Input-clause-err : goal.returns-in_err-text_of-in-Input-clause-err
returns-in_err-text_of-in-Input-clause-err g c =
    let p = err_from_is_err_and c.from_residual-in_err-text_of-in-Input.result c.from_residual-in_err-text_of-in-Input.ensures.1 in
    rw (p.1, p.2) (λ q n w. c.in_err-text_of-in-Input.ensures.err q)

pub returns-in_err-text_of-in-File-default-Some-Json-clause-err : goal.returns-in_err-text_of-in-File-default-Some-Json-clause-err
returns-in_err-text_of-in-File-default-Some-Json-clause-err g c =
    let p = err_from_is_err_and c.from_residual-in_err-text_of-in-File-default-Some-Json.result c.from_residual-in_err-text_of-in-File-default-Some-Json.ensures.1 in
    rw (p.1, p.2) (λ q n w. c.in_err-text_of-in-File-default-Some-Json.ensures.err q)

pub returns-in_err-bytes_of-in-File-default-Some-Npy-clause-err : goal.returns-in_err-bytes_of-in-File-default-Some-Npy-clause-err
returns-in_err-bytes_of-in-File-default-Some-Npy-clause-err g c =
    let p = err_from_is_err_and c.from_residual-in_err-bytes_of-in-File-default-Some-Npy.result c.from_residual-in_err-bytes_of-in-File-default-Some-Npy.ensures.1 in
    rw (p.1, p.2) (λ q n w. c.in_err-bytes_of-in-File-default-Some-Npy.ensures.err q)

pub returns-in_err-bytes_of-in-File-default-Some-clause-err : goal.returns-in_err-bytes_of-in-File-default-Some-clause-err
returns-in_err-bytes_of-in-File-default-Some-clause-err g c =
    let p = err_from_is_err_and c.from_residual-in_err-bytes_of-in-File-default-Some.result c.from_residual-in_err-bytes_of-in-File-default-Some.ensures.1 in
    rw (p.1, p.2) (λ q n w. c.in_err-bytes_of-in-File-default-Some.ensures.err q)
