use Rattle.std.proofs.Common.{inl, inr, refl, sym}
use Rattle.std.proofs.lemmas.Result.{err_from_is_err_and}
use Rattle.isp_output.proofs.Written.{adds_nil}
use Rattle.isp_run_command.proofs.Shows.{lost}
use Rattle.isp_run_command.proofs.command.done.Goals as goal

pub returns-in_err-page : goal.returns-in_err-page
returns-in_err-page g c =
    let p = err_from_is_err_and c.from_residual.result c.from_residual.ensures.1 in
    rw (p.1, p.2) (inr (_, refl, c.in_err-page.ensures.err, (sym (adds_nil _), c.requires)))

pub returns-in-Ok : goal.returns-in-Ok
returns-in-Ok g c = inl (_, _, c.in_ok-page.ensures.ok, inl (refl, rw (← c.as_slice.ensures.value) c.in-Ok.ensures))

pub returns : goal.returns
returns g c = inl (_, _, c.in_ok-page.ensures.ok, inr (refl, rw (← c.as_slice.ensures.value) (lost _ _ _ _ _ c.in-Err.ensures)))
