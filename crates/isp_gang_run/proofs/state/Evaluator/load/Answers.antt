use Rattle.isp_gang_run.proofs.Progress.{no_more}
use Rattle.isp_gang_run.proofs.state.Evaluator.load.Goals as goal

pub returns-clause-fewer : goal.returns-clause-fewer
returns-clause-fewer c =
    no_more c.args.self.now 0
