use Rattle.isp_gang_run.proofs.Arms.{printed}
use Rattle.isp_gang_run.proofs.state.Evaluator.print_all.Goals as goal

pub returns-clause-ok : goal.returns-clause-ok
returns-clause-ok c =
    printed c.args.self.now c.values.new.self c.tick.new.self c.tick.ensures c.args.text c.args.values c.new-done.result.items c.args.set c.new-done.ensures.items c.in_ok-values.ensures.ok
