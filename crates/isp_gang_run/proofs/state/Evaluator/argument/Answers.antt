use Rattle.isp_gang_run.proofs.Handing.{argument_does}
use Rattle.isp_gang_run.proofs.state.Evaluator.argument.Goals as goal

pub returns-clause-ok : goal.returns-clause-ok
returns-clause-ok c =
    argument_does c.args.self.now c.args.call c.args.set c.later.new.self c.args.rest c.args.done c.push.new.self c.in_ok-push.ensures.items c.in_ok-later.ensures.ok c.in_ok-later.ensures.rest
