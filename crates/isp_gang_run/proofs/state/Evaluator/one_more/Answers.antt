use Rattle.isp_gang_run.proofs.Gathers.{more_does}
use Rattle.isp_gang_run.proofs.Results.{on_ok}
use Rattle.isp_gang_run.proofs.state.Evaluator.one_more.Goals as goal

pub returns-clause-ok : goal.returns-clause-ok
returns-clause-ok c =
    on_ok c.values.result (more_does c.args.self.now c.values.new.self c.args.gathering c.args.rest c.args.done c.push.new.self c.args.set c.in_ok-push.ensures.items) c.values.ensures.ok
