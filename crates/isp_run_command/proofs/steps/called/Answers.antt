use Rattle.std.proofs.lemmas.Result.{err_from_is_err_and}
use Rattle.isp_run_command.proofs.Ends.{bound, unplanned}
use Rattle.isp_run_command.proofs.steps.called.Goals as goal

pub returns-in_err-outputs-in-Ok-clause-err : goal.returns-in_err-outputs-in-Ok-clause-err
returns-in_err-outputs-in-Ok-clause-err c =
    let p = err_from_is_err_and c.from_residual.result c.from_residual.ensures.1 in
    rw (p.1, p.2) (unplanned c.args.image.now c.args.request.now c.args.words _ c.in_err-outputs-in-Ok.ensures)

pub returns-in-Ok-clause-ok : goal.returns-in-Ok-clause-ok
returns-in-Ok-clause-ok c = rw (← c.verified.ensures) (bound _ _ _ _ _ _ c.in-Some.ensures.found c.in-Ok.ensures.fits c.in-Ok.ensures.ok)
