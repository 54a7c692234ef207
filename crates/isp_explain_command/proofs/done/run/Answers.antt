use Rattle.std.proofs.Common.{inl, inr, sym}
use Rattle.std.proofs.lemmas.Result.{err_from_is_err_and}
use Rattle.isp_code_commands.proofs.Stories.{none_compiled}
use Rattle.isp_output.proofs.Written.{adds_nil}
use Rattle.isp_explain_command.proofs.done.run.Goals as goal

pub returns-in_err-image : goal.returns-in_err-image
returns-in_err-image g c =
    let p = err_from_is_err_and c.from_residual.result c.from_residual.ensures.1 in
    rw (p.1, p.2) (inr (none_compiled c.args.job.now.gang c.args.job.now.source.text.now _ c.in_err-image.ensures.refused, (sym (adds_nil _), c.requires)))

pub returns : goal.returns
returns g c = inl (record { code = c.in_ok-image.image; compiles = c.in_ok-image.ensures.compiled; ran = c.run_image.ensures })
