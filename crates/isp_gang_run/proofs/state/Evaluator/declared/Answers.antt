use Rattle.std.proofs.Common.{ap, ◌∙◌}
use Rattle.isp_gang_run.specs.Due.{due_now}
use Rattle.isp_gang_run.specs.declared.state.Evaluator.{Evaluator}
use Rattle.isp_gang_run.proofs.Progress.{same_leaves}
use Rattle.isp_gang_run.proofs.state.Evaluator.declared.Goals as goal

pub returns-clause-fewer : goal.returns-clause-fewer
returns-clause-fewer c =
    same_leaves c.args.self.now c.forget.new.self 0 (ap (λ (e : Evaluator). due_now e) c.forget.ensures ∙ ap (λ (e : Evaluator). due_now e) c.in_ok-write.ensures.ok.same)
