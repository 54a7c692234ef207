use Rattle.std.proofs.lemmas.Result.{IfOk-weaker}
use Rattle.isp_server.specs.Told.{of_none, of_program}
use Rattle.isp_server.proofs.told.of_text.Goals as goal

pub returns-in-Ok : goal.returns-in-Ok
returns-in-Ok c = IfOk-weaker c.of_program.result _ _ (λ v tells. of_program _ _ _ c.in-Ok.ensures.ok tells) c.of_program.ensures

pub returns-in-Err-Refused : goal.returns-in-Err-Refused
returns-in-Err-Refused c = of_none c.in-Err-Refused._fault (c.in-Err-Refused.ensures.refused c.in-Err-Refused._fault c.in-Err-Refused.field-0-is) c.nothing.ensures
