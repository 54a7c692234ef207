use Rattle.std.proofs.Common.{ap}
use Rattle.isp_gang_run.specs.Due.{due_now}
use Rattle.isp_gang_run.specs.declared.state.Evaluator.{Evaluator}
use Rattle.isp_gang_run.proofs.Progress.{same_leaves}
use Rattle.isp_gang_run.proofs.Branching.{united}
use Rattle.isp_gang_run.proofs.state.Evaluator.unite.Goals as goal

pub returns-clause-comes : goal.returns-clause-comes
returns-clause-comes c = united c.args.self.now c.leave.new.self c.args.first _ c.union.ensures c.or.ensures.broke c.or.ensures.continued c.or.ensures.returned c.leave.ensures

pub returns-clause-fewer : goal.returns-clause-fewer
returns-clause-fewer c =
    same_leaves c.args.self.now c.leave.new.self 0 (ap (λ (e : Evaluator). due_now e) c.leave.ensures)
