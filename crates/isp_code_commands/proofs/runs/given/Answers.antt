use Rattle.std.proofs.Common.{refl, string_bytes, Some}
use Rattle.std.proofs.lemmas.Result.{err_from_is_err_and}
use Rattle.isp_engine.specs.Stories.{Reads}
use Rattle.isp_code_commands.proofs.Stories.{not_compiled}
use Rattle.isp_code_commands.proofs.runs.given.Goals as goal

pub returns-in_err-image-clause-err : goal.returns-in_err-image-clause-err
returns-in_err-image-clause-err g c =
    let p = err_from_is_err_and c.from_residual-in_err-image.result c.from_residual-in_err-image.ensures.1 in
    let holds = g.F.SourceFiles.holds c.args.files.now in
    let source : holds c.args.wanted.now.source.now (Some c.as_str.result.now) = rw c.as_str.ensures.value c.in_ok-source.ensures.source in
    let files : Reads holds c.args.wanted.now.source.now c.args.wanted.now.arguments.now = record { text = c.as_str.result.now; json = string_bytes c.in_ok-source.json; has_text = source; has_json = c.in_ok-source.ensures.json } in
    rw (p.1, p.2) (not_compiled holds c.args.wanted.now files _ c.in_err-image.ensures.err)

pub returns-clause-ok : goal.returns-clause-ok
returns-clause-ok g c =
    let holds = g.F.SourceFiles.holds c.args.files.now in
    let source : holds c.args.wanted.now.source.now (Some c.as_str.result.now) = rw c.as_str.ensures.value c.in_ok-source.ensures.source in
    let files : Reads holds c.args.wanted.now.source.now c.args.wanted.now.arguments.now = record { text = c.as_str.result.now; json = string_bytes c.in_ok-source.json; has_text = source; has_json = c.in_ok-source.ensures.json } in
    (record { files = files; json_is = refl; image = c.in_ok-image.ensures.ok }, c.as_str.ensures.value)
