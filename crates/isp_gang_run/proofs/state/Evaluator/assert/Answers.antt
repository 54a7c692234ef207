use Rattle.isp_gang_run.specs.Due.{due_now}
use Rattle.isp_gang_run.specs.declared.state.Evaluator.{Evaluator}
use Rattle.isp_gang_run.proofs.Progress.{same_leaves}
use Rattle.std.proofs.Common.{refl, ap, ◌∙◌}
use Rattle.isp_base.specs.Sets.{flag_of}
use Rattle.isp_base.specs.Types.{gang_width}
use Rattle.isp_meaning.specs.Payloads.{is_false, offender}
use Rattle.isp_gang_values.specs.Seen.{payload_of}
use Rattle.isp_gang_run.specs.Tasks.{Halts, does}
use Rattle.isp_gang_run.specs.declared.tasks.Task.TheVariants as task
use Rattle.isp_gang_run.proofs.Arms.{assert_comes, assert_halts}
use Rattle.isp_gang_run.proofs.Turns.{at_err}
use Rattle.isp_gang_run.proofs.state.Evaluator.assert.Goals as goal

pub returns-in_err-checked-clause-err : goal.returns-in_err-checked-clause-err
returns-in_err-checked-clause-err c =
    let old = c.args.self.now in
    let h = c.in_err-checked.ensures.err in
    at_err c.from_residual.result c.in_err-checked.field-0.0 (Halts old old (does old (task.Assert c.args.span c.args.set))) c.from_residual.ensures.1
    (assert_halts old old c.args.span c.args.set c.lowest_false-offender.result
    (c.lowest_false-offender.ensures ∙ ap (λ g. offender (gang_width g) is_false (flag_of c.args.set) (payload_of old.value)) c.gang.ensures)
    c.in_err-checked.field-0.0 h.0 h.1 refl h.2)

pub returns-clause-ok : goal.returns-clause-ok
returns-clause-ok c =
    let old = c.args.self.now in
    assert_comes old c.leave.new.self c.args.span c.args.set c.lowest_false-offender.result
    (c.lowest_false-offender.ensures ∙ ap (λ g. offender (gang_width g) is_false (flag_of c.args.set) (payload_of old.value)) c.gang.ensures)
    c.all.result c.in_ok-checked.ensures.ok c.all.ensures c.leave.ensures

pub returns-clause-fewer : goal.returns-clause-fewer
returns-clause-fewer c =
    same_leaves c.args.self.now c.leave.new.self 0 (ap (λ (e : Evaluator). due_now e) c.leave.ensures)
