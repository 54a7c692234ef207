use Rattle.isp_solo_run.proofs.Results.{at_ok}
use Rattle.isp_solo_run.proofs.Steps.{both_tell}
use Rattle.isp_solo_run.proofs.state.Single.both.Goals as goal

pub returns-in-Ok : goal.returns-in-Ok
returns-in-Ok c =
    both_tell c.later.result c.args.self.now c.push.new.self c.later.new.self c.args.first c.args.second (at_ok c.push.result _ c.in-Ok.is c.push.ensures.more) (at_ok c.push.result _ c.in-Ok.is c.push.ensures.rest) c.later.ensures
