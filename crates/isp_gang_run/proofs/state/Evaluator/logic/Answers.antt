use Rattle.isp_gang_run.proofs.Nodes.{logic_does}
use Rattle.isp_gang_run.proofs.state.Evaluator.logic.Goals as goal

pub returns-clause-ok : goal.returns-clause-ok
returns-clause-ok c = logic_does c.args.self.now c.unless_empty.new.self c.args.logic c.args.right c.args.set c.needing-needed.result c.needing-needed.ensures c.in_ok-unless_empty.ensures.ok
