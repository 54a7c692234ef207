use Rattle.std.proofs.Common.{◌∙◌, ap, inl, inr, refl, sym}
use Rattle.std.proofs.lemmas.Result.{err_from_is_err_and}
use Rattle.isp_engine.specs.Failures.{source_failure}
use Rattle.isp_output.proofs.Written.{adds_nil}
use Rattle.isp_check_command.proofs.command.tell_notes.Goals as goal

pub returns-in_err-page : goal.returns-in_err-page
returns-in_err-page g c =
    let p = err_from_is_err_and c.from_residual.result c.from_residual.ensures.1 in
    rw (p.1, p.2 ∙ ap source_failure c.in_err-page.ensures.memory) (inr (refl, (sym (adds_nil _), c.requires.live)))

pub returns : goal.returns
returns g c = inl (_, rw c.as_str.ensures.value c.in_ok-page.ensures.told, c.tell_some.ensures)
