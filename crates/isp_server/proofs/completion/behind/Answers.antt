use Rattle.std.proofs.lemmas.Result.{IfOk-weaker}
use Rattle.isp_server.specs.Completions.{by_all, by_before}
use Rattle.isp_server.proofs.completion.behind.Goals as goal

pub returns-in-Ok : goal.returns-in-Ok
returns-in-Ok c = IfOk-weaker c.completions.result _ _ (λ v e. by_all c.in-Ok.all.items c.in-Ok.ensures.ok c.in-Ok.ensures.length.1 e) c.completions.ensures

pub returns-in-Err-Refused : goal.returns-in-Err-Refused
returns-in-Err-Refused c =
    let refused = rw c.in-Err-Refused.field-0-is at c.in-Err-Refused.ensures.refused in
    IfOk-weaker c.completions-in-Err-Refused.result _ _ (λ v e. by_before c.in-Err-Refused._fault refused e) c.completions-in-Err-Refused.ensures
