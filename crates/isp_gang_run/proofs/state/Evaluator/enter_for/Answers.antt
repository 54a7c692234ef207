use Rattle.std.proofs.Common.{ap, sym, ◌+◌, ◌∙◌}
use Rattle.isp_gang_run.proofs.Progress.{after_leaves, leaves_as}
use Rattle.isp_gang_run.specs.Due.{first_due, own, test_due}
use Rattle.isp_gang_run.specs.Most.{one}
use Rattle.isp_gang_run.specs.declared.loops.Turning.{Turning}
use Rattle.isp_gang_run.proofs.Arms.{enters_first}
use Rattle.isp_gang_run.specs.declared.tasks.Task.TheVariants as task
use Rattle.isp_gang_run.proofs.state.Evaluator.enter_for.Goals as goal

pub returns-clause-ok : goal.returns-clause-ok
returns-clause-ok c =
    enters_first c.args.self.now c.first.new.self c.tick.new.self c.tick.ensures c.args.set c.args.test c.args.step c.args.body c.new-turning.result
    c.new-turning.ensures.entered c.new-turning.ensures.returned c.later.new.self c.args.first c.in_ok-after.after c.in_ok-after.ensures.ok
    c.in_ok-later.ensures.ok c.in_ok-later.ensures.rest c.in_ok-first.ensures.ok

pub returns-clause-fewer : goal.returns-clause-fewer
returns-clause-fewer c =
    leaves_as c.args.self.now c.first.new.self c.args.self.now.left (ap (λ (t : Turning). own c.args.self.now first_due c.args.first + one (own c.args.self.now test_due t.looping t.left)) (sym (c.in_ok-after.ensures.ok ∙ c.new-turning.ensures.entered)))
    (after_leaves (record c.args.self.now { work = c.tick.new.self }) c.later.new.self c.first.new.self (task.Test c.in_ok-after.after) (λ e. own e first_due c.args.first) c.in_ok-later.ensures.ok c.in_ok-later.ensures.rest c.in_ok-first.ensures.fewer)
