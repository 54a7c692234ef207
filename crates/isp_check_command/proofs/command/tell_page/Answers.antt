use Rattle.std.proofs.Common.{inl, inr, refl, sym}
use Rattle.std.proofs.lemmas.Result.{err_from_is_err_and}
use Rattle.isp_output.proofs.Written.{adds_nil}
use Rattle.isp_check_command.proofs.command.tell_page.Goals as goal

pub returns-in_err-page : goal.returns-in_err-page
returns-in_err-page g c =
    let p = err_from_is_err_and c.from_residual.result c.from_residual.ensures.1 in
    rw (p.1, p.2) (inr (refl, (sym (adds_nil _), c.requires)))

pub returns : goal.returns
returns g c = inl (_, rw c.as_str.ensures.value c.in_ok-page.ensures, c.write_text.ensures)
