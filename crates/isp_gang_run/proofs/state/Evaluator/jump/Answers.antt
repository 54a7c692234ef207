use Rattle.isp_gang_run.specs.Due.{due_now}
use Rattle.isp_gang_run.specs.declared.state.Evaluator.{Evaluator}
use Rattle.isp_gang_run.proofs.Progress.{same_leaves}
use Rattle.std.proofs.Common.{ap}
use Rattle.isp_meaning.specs.State.{State}
use Rattle.isp_meaning.specs.Outcomes.{Res}
use Rattle.isp_gang_run.proofs.Arms.{jumped_away}
use Rattle.isp_gang_run.proofs.state.Evaluator.jump.Goals as goal

pub returns-clause-comes : goal.returns-clause-comes
returns-clause-comes c = jumped_away c.args.self.now c.leave.new.self c.tick.new.self c.tick.ensures c.args.jump c.args.set.now c.jumped.result (λ s. ap (λ (f : State → Res). f s) c.jumped.ensures) c.leave.ensures

pub returns-clause-fewer : goal.returns-clause-fewer
returns-clause-fewer c =
    same_leaves c.args.self.now c.leave.new.self 0 (ap (λ (e : Evaluator). due_now e) c.leave.ensures)
