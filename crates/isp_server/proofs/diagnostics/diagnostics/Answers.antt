use Rattle.std.proofs.Common.{ap}
use Rattle.std.proofs.lemmas.Result.{IfOk-weaker}
use Rattle.serde_json.specs.View.{items_view}
use Rattle.isp_server.specs.Sent.{faulty, sound}
use Rattle.isp_server.proofs.diagnostics.diagnostics.Goals as goal

pub returns-in-Ok : goal.returns-in-Ok
returns-in-Ok c = sound _ c.in-Ok.ensures.accepted (ap items_view c.new.ensures.items)

pub returns-in-Err-Refused : goal.returns-in-Err-Refused
returns-in-Err-Refused c =
    let is_faulty = c.in-Err-Refused.ensures.refused c.in-Err-Refused.fault c.in-Err-Refused.field-0-is in
    IfOk-weaker c.one_fault.result _ _ (λ found said. faulty c.in-Err-Refused.fault said.0 is_faulty said.1) c.one_fault.ensures
