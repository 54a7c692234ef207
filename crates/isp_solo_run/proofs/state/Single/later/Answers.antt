use Rattle.isp_solo_run.proofs.Results.{at_ok}
use Rattle.isp_solo_run.proofs.Steps.{later_tells}
use Rattle.isp_solo_run.proofs.state.Single.later.Goals as goal

pub returns-in-Ok : goal.returns-in-Ok
returns-in-Ok c = later_tells c.args.self.now c.push.new.self c.args.task (at_ok c.push.result _ c.in-Ok.is c.push.ensures.more) (at_ok c.push.result _ c.in-Ok.is c.push.ensures.rest)
