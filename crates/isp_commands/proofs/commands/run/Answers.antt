use Rattle.std.proofs.Common.{inr, sym}
use Rattle.std.proofs.lemmas.Result.{err_from_is_err_and}
use Rattle.isp_commands.proofs.Requests.{run_ends}
use Rattle.isp_output.proofs.Written.{adds_nil}
use Rattle.isp_commands.proofs.commands.run.Goals as goal

pub returns-in_err-image : goal.returns-in_err-image
returns-in_err-image g c =
    let p = err_from_is_err_and c.from_residual.result c.from_residual.ensures.1 in
    rw (p.1, p.2) (inr (c.in_err-image.ensures.err, (sym (adds_nil _), c.requires)))

pub returns : goal.returns
returns g c = run_ends _ _ _ _ _ _ _ _ _ c.as_str.ensures.value c.in_ok-image.ensures.ok c.run_image.ensures
