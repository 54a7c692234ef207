use Rattle.std.proofs.Common.{Err, Some, refl, subst, sym}
use Rattle.isp_explain_command.proofs.Stories.{run_story, unrun_story}
use Rattle.isp_explain_command.proofs.command.explain_run.Goals as goal

pub returns-in-Ok : goal.returns-in-Ok
returns-in-Ok g c =
    let e = c.run_texts.ensures in
    let q = c.args.wanted.now in
    let holds = g.F.SourceFiles.holds c.args.files.now in
    let source = subst (λ b. holds q.source.now (Some b)) (sym c.as_str.ensures.value) c.in-Ok.ensures.source in
    let json = subst (λ b. holds q.arguments.now (Some b)) (sym c.as_str-in-Ok.ensures.value) c.in-Ok.ensures.json in (
      e.0,
      e.1,
      run_story holds q
          (record { gang = q.gang; budget = q.budget; source = record { name = q.source; text = c.as_str.result }; entry = q.entry; arguments = record { name = q.arguments; text = c.as_str-in-Ok.result } })
          refl refl refl source json _ _ _ e.0 e.2,
    )

pub returns-in-Err : goal.returns-in-Err
returns-in-Err g c =
    (Err c.in-Err.failure, c.unread.ensures, unrun_story (g.F.SourceFiles.holds c.args.files.now) c.args.wanted.now _ _ c.in-Err.failure c.requires c.in-Err.ensures.err)
