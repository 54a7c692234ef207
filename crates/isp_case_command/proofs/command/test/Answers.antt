use Rattle.std.proofs.Common.{Err, inl, inr, refl, sym}
use Rattle.isp_output.proofs.Written.{adds_nil}
use Rattle.isp_case_command.proofs.command.test.Goals as goal

pub returns-in-Ok : goal.returns-in-Ok
returns-in-Ok g c = (c.done-end.result, c.say.ensures, inl (_, _, c.in-Ok.ensures.source, c.in-Ok.ensures.cases, c.done-end.ensures))

pub returns-in-Err : goal.returns-in-Err
returns-in-Err g c = (Err c.in-Err.stop, c.say-in-Err.ensures, inr (_, refl, c.in-Err.ensures.err, (sym (adds_nil _), c.requires)))
