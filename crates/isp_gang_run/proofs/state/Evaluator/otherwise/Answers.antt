use Rattle.isp_gang_run.proofs.Nodes.{otherwise_does}
use Rattle.isp_gang_run.proofs.state.Evaluator.otherwise.Goals as goal

pub returns-clause-ok : goal.returns-clause-ok
returns-clause-ok c = otherwise_does c.args.self.now c.unless_empty.new.self c.args.test c.args.otherwise c.args.set c.members-others.result c.members-others.ensures c.in_ok-unless_empty.ensures.ok
