use Rattle.std.proofs.lemmas.Result.{err_from_is_err_and}
use Rattle.isp_commands.proofs.Sources.{refused_source}
use Rattle.isp_commands.proofs.commands.assembled.Goals as goal

pub returns-in_err-image-clause-err : goal.returns-in_err-image-clause-err
returns-in_err-image-clause-err g c =
    let p = err_from_is_err_and c.from_residual-in_err-image.result c.from_residual-in_err-image.ensures.1 in
    rw (p.1, p.2) (refused_source (g.F.SourceFiles.holds c.args.files.now) c.args.request.now.gang c.args.request.now.source.now c.as_str.result.now (rw c.as_str.ensures.value c.in_ok-source.ensures.ok) _ c.in_err-image.ensures.refused)

pub returns-clause-ok : goal.returns-clause-ok
returns-clause-ok g c =
    record { text = c.as_str.result.now; has_text = rw c.as_str.ensures.value c.in_ok-source.ensures.ok; code = _; compiles = c.in_ok-image.ensures.compiled; loads = c.in_ok-text.ensures }
