use Rattle.std.proofs.lemmas.Result.{err_from_is_err_and}
use Rattle.isp_run_data.proofs.sending.outputs.Goals as goal

pub returns-in_err-output : goal.returns-in_err-output
returns-in_err-output c =
    let p = err_from_is_err_and c.from_residual.result c.from_residual.ensures.1 in
    rw (p.1, p.2) (c.in_err-output.ensures c.args.request.now)
