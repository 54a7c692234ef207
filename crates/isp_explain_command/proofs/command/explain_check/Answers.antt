use Rattle.std.proofs.Common.{Err}
use Rattle.isp_explain_command.proofs.Stories.{checked_story, unchecked_story}
use Rattle.isp_explain_command.proofs.command.explain_check.Goals as goal

pub returns-in-Ok : goal.returns-in-Ok
returns-in-Ok g c =
    let e = c.check_text.ensures in
    (e.0, e.1, checked_story (g.F.SourceFiles.holds c.args.files.now) c.args.request.now c.as_str.result.now _ _ _ e.0 (rw c.as_str.ensures.value c.in-Ok.ensures.ok) e.2)

pub returns-in-Err : goal.returns-in-Err
returns-in-Err g c =
    (Err c.in-Err.failure, c.unread.ensures, unchecked_story (g.F.SourceFiles.holds c.args.files.now) c.args.request.now _ _ c.in-Err.failure c.requires c.in-Err.ensures.err)
