use Rattle.isp_gang_run.specs.Due.{due_now}
use Rattle.isp_gang_run.specs.declared.state.Evaluator.{Evaluator}
use Rattle.isp_gang_run.proofs.Progress.{same_leaves}
use Rattle.std.proofs.Common.{refl, sym, ◌∙◌, ap}
use Rattle.isp_gang_run.specs.Tasks.{Halts, does}
use Rattle.isp_gang_run.specs.declared.tasks.Task.TheVariants as task
use Rattle.isp_gang_run.proofs.Assignments.{assign_halts}
use Rattle.isp_gang_run.proofs.Turns.{at_err}
use Rattle.isp_gang_run.proofs.state.Evaluator.assign.Goals as goal

pub returns-in_err-checked-clause-err : goal.returns-in_err-checked-clause-err
returns-in_err-checked-clause-err c =
    let h = c.in_err-checked.ensures.err in
    at_err c.from_residual.result c.in_err-checked.field-0.0 (Halts c.args.self.now c.args.self.now (does c.args.self.now (task.Assign c.args.place c.args.span c.args.set))) c.from_residual.ensures.1
    (assign_halts c.args.self.now c.args.place c.args.span c.args.set c.args.self.now c.in_err-checked.field-0.0 h.0 (sym c.outside.ensures ∙ h.1) refl h.2)

pub returns-clause-fewer : goal.returns-clause-fewer
returns-clause-fewer c =
    same_leaves c.args.self.now c.forget.new.self 0 (ap (λ (e : Evaluator). due_now e) c.forget.ensures ∙ ap (λ (e : Evaluator). due_now e) c.in_ok-keep.ensures.ok.same)
