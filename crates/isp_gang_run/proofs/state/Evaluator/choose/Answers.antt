use Rattle.isp_gang_run.proofs.Nodes.{choose_does}
use Rattle.isp_gang_run.proofs.state.Evaluator.choose.Goals as goal

pub returns-clause-ok : goal.returns-clause-ok
returns-clause-ok c = choose_does c.args.self.now c.unless_empty.new.self c.args.then c.args.otherwise c.args.set c.members-chosen.result c.members-chosen.ensures c.in_ok-unless_empty.ensures.ok
