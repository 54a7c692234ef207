use Rattle.isp_gang_run.proofs.Arms.{claimed}
use Rattle.isp_gang_run.proofs.state.Evaluator.claim.Goals as goal

pub returns-clause-ok : goal.returns-clause-ok
returns-clause-ok c = claimed c.args.self.now c.both.new.self c.tick.new.self c.tick.ensures c.args.test c.args.span c.args.set c.in_ok-both.ensures.ok
