use Rattle.isp_gang_run.proofs.Arms.{declared}
use Rattle.isp_gang_run.proofs.state.Evaluator.declare.Goals as goal

pub returns-clause-ok : goal.returns-clause-ok
returns-clause-ok c = declared c.args.self.now c.both.new.self c.tick.new.self c.tick.ensures c.args.items c.args.set c.in_ok-both.ensures.ok
