use Rattle.isp_gang_run.specs.Due.{due_now}
use Rattle.isp_gang_run.specs.declared.state.Evaluator.{Evaluator}
use Rattle.isp_gang_run.proofs.Progress.{same_leaves}
use Rattle.std.proofs.Common.{refl, ap}
use Rattle.isp_gang_run.proofs.Turns.{loop_ends}
use Rattle.isp_gang_run.proofs.state.Evaluator.loop_end.Goals as goal

pub returns-clause-comes : goal.returns-clause-comes
returns-clause-comes c = loop_ends c.args.self.now c.leave.new.self c.args.turning.now _ c.without-went.ensures c.none.ensures.broke c.none.ensures.continued refl c.leave.ensures

pub returns-clause-fewer : goal.returns-clause-fewer
returns-clause-fewer c =
    same_leaves c.args.self.now c.leave.new.self 0 (ap (λ (e : Evaluator). due_now e) c.leave.ensures)
