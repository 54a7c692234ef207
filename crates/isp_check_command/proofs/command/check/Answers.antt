use Rattle.std.proofs.Common.{Err, inl, inr, sym}
use Rattle.isp_output.proofs.Written.{adds_nil}
use Rattle.isp_check_command.proofs.command.check.Goals as goal

pub returns-in-Ok : goal.returns-in-Ok
returns-in-Ok g c = (c.tell_all-end.result, c.say.ensures, inl (c.as_str.result.now, rw c.as_str.ensures.value c.in-Ok.ensures.ok, c.tell_all-end.ensures))

pub returns-in-Err : goal.returns-in-Err
returns-in-Err g c = (Err c.in-Err.failure, c.unread.ensures, inr (c.in-Err.ensures.err, (sym (adds_nil _), c.requires)))
