use Rattle.std.proofs.Common.{Some, None}
use Rattle.isp_verdicts.proofs.Lines.{verdict_is}
use Rattle.isp_check_command.proofs.exports.verdict.Goals as goal

pub returns-in-Ok : goal.returns-in-Ok
returns-in-Ok c = verdict_is c.args.checked.now c.args.name.now None c.requires (λ f e. record { by = c.in-Ok.ensures.ok f e })

pub returns-in-Err : goal.returns-in-Err
returns-in-Err c = verdict_is c.args.checked.now c.args.name.now (Some c.in-Err.dependence) c.requires (λ f e. record { by = c.in-Err.ensures.err f e })
