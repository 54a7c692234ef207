use Rattle.std.proofs.Common.{Ok, Err, refl, string_bytes, subst}
use Rattle.isp_reports.specs.Rooms.{Gives}
use Rattle.isp_c.proofs.native.isp_native.Goals as goal

pub returns-in-Ok : goal.returns-in-Ok
returns-in-Ok c = (
  Ok (string_bytes c.in-Ok.text),
  c.in-Ok.ensures.ok,
  subst (λ b. Gives b c.args.file.now c.give.new.room c.give.new.report c.give.result) c.as_bytes.ensures.value c.give.ensures,
)

pub returns-in-Err : goal.returns-in-Err
returns-in-Err c = (Err c.in-Err.refusal, c.in-Err.ensures.err, (refl, c.refuse.ensures))
