use Rattle.isp_gang_run.proofs.Progress.{later_leaves}
use Rattle.std.proofs.Common.{refl}
use Rattle.isp_gang_run.proofs.state.Evaluator.later.Goals as goal

pub returns-clause-fewer : goal.returns-clause-fewer
returns-clause-fewer c =
    later_leaves c.args.self.now (record c.args.self.now { tasks = c.push.new.self }) c.args.task c.in_ok-push.ensures.items refl
