use Rattle.std.proofs.Common.{Err, inl, inr, subst, sym}
use Rattle.isp_output.proofs.Written.{adds_nil}
use Rattle.isp_code_commands.specs.Requests.{HasCode}
use Rattle.isp_code_commands.proofs.wasm.wasm_file.Goals as goal

pub returns-in-Ok : goal.returns-in-Ok
returns-in-Ok g c =
    let q = c.args.request.now in
    let holds = g.F.SourceFiles.holds c.args.files.now in
    inl (c.verified.result.now, subst (HasCode holds q.gang q.file.now) (sym c.verified.ensures) c.in-Ok.ensures.ok, c.write_module.ensures)

pub returns-in-Err : goal.returns-in-Err
returns-in-Err g c =
    inr (Err c.in-Err.failure, c.tell_end.ensures.status, ((c.in-Err.ensures.err, (sym (adds_nil _), c.requires)), c.tell_end.ensures.line))
