use Rattle.std.proofs.lemmas.Result.{IfOk-weaker}
use Rattle.isp_server.specs.Renaming.{edited, not_renamed}
use Rattle.isp_server.proofs.renaming.of_text.Goals as goal

pub returns-in-Ok : goal.returns-in-Ok
returns-in-Ok c = IfOk-weaker c.edited.result _ _ (λ v e. edited _ (rw c.byte_of.ensures.is at c.in-Ok.ensures.ok) e) (rw c.deref.ensures.value at c.edited.ensures)

pub returns-in-Err : goal.returns-in-Err
returns-in-Err c = IfOk-weaker c.not_renamed.result _ _ (λ v r. not_renamed c.in-Err.why r.0 (rw c.byte_of.ensures.is at c.in-Err.ensures.err) r.1 r.2) c.not_renamed.ensures
