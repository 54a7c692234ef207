use Rattle.std.proofs.Common.{ap, ◌∙◌}
use Rattle.isp_gang_run.specs.Due.{due_now}
use Rattle.isp_gang_run.specs.declared.state.Evaluator.{Evaluator}
use Rattle.isp_gang_run.proofs.Progress.{same_leaves}
use Rattle.isp_gang_run.proofs.Arms.{answer_comes}
use Rattle.isp_gang_run.proofs.state.Evaluator.answer.Goals as goal

pub returns-clause-comes : goal.returns-clause-comes
returns-clause-comes c = answer_comes c.args.self.now c.keep_answer.new.self c.leave.new.self c.args.set c.returned.result c.keep_answer.ensures c.leave.ensures c.returned.ensures

pub returns-clause-fewer : goal.returns-clause-fewer
returns-clause-fewer c =
    same_leaves c.args.self.now c.leave.new.self 0 (ap (λ (e : Evaluator). due_now e) c.leave.ensures ∙ ap (λ (e : Evaluator). due_now e) c.keep_answer.ensures.same)
