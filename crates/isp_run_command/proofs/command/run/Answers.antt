use Rattle.std.proofs.Common.{Err, Some, inl, inr, refl, subst, sym}
use Rattle.isp_output.proofs.Written.{adds_nil}
use Rattle.isp_run_command.proofs.Ends.{unasked}
use Rattle.isp_run_command.proofs.command.run.Goals as goal

pub returns-in-Some : goal.returns-in-Some
returns-in-Some g c =
    (Err c.in-Some.stop, c.say.ensures, inr (_, refl, unasked (g.F.SourceFiles.holds c.args.files.now) c.args.request.now _ c.in-Some.ensures, (sym (adds_nil _), c.requires)))

pub returns-in-Ok : goal.returns-in-Ok
returns-in-Ok g c =
    let source = subst (λ b. g.F.SourceFiles.holds c.args.files.now c.args.request.now.source.now (Some b)) (sym c.as_str-text.ensures.value) c.in-Ok.ensures.ok in
    (c.done-end.result, c.say-in-Ok.ensures, inl (c.as_str-text.result.now, source, c.done-end.ensures))

pub returns-in-Err : goal.returns-in-Err
returns-in-Err g c = (Err c.in-Err.stop, c.say-in-Err.ensures, inr (_, refl, c.in-Err.ensures.err, (sym (adds_nil _), c.requires)))
