use Rattle.std.proofs.Common.{Ok, Err, refl, subst}
use Rattle.isp_reports.specs.Rooms.{Gives}
use Rattle.isp_c.proofs.wasm.isp_wasm.Goals as goal

pub returns-in-Ok : goal.returns-in-Ok
returns-in-Ok c = (
  Ok c.in-Ok.bytes.items,
  c.in-Ok.ensures.ok,
  subst (λ b. Gives b c.args.file.now c.give.new.room c.give.new.report c.give.result) c.as_slice.ensures.value c.give.ensures,
)

pub returns-in-Err : goal.returns-in-Err
returns-in-Err c = (Err c.in-Err.refusal, c.in-Err.ensures.err, (refl, c.refuse.ensures))
