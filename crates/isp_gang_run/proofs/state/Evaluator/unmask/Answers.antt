use Rattle.isp_gang_run.specs.Due.{block_due, own}
use Rattle.isp_typed.specs.Views.{block_of}
use Rattle.isp_gang_run.proofs.Progress.{after_leaves}
use Rattle.std.proofs.Common.{ap, ◌∙◌}
use Rattle.isp_base.specs.Sets.{everyone}
use Rattle.isp_base.specs.Types.{gang_width}
use Rattle.isp_gang_run.proofs.Arms.{unmasked}
use Rattle.isp_gang_run.specs.declared.tasks.Task.TheVariants as task
use Rattle.isp_gang_run.proofs.state.Evaluator.unmask.Goals as goal

pub returns-clause-ok : goal.returns-clause-ok
returns-clause-ok c =
    unmasked c.args.self.now c.later.new.self c.block.new.self c.tick.new.self c.tick.ensures c.args.body c.everyone-all.result c.args.set c.in_ok-later.ensures.ok c.in_ok-later.ensures.rest
    (c.everyone-all.ensures ∙ ap (λ g. everyone (gang_width g)) c.gang.ensures) c.in_ok-block.ensures.ok

pub returns-clause-fewer : goal.returns-clause-fewer
returns-clause-fewer c =
    after_leaves (record c.args.self.now { work = c.tick.new.self }) c.later.new.self c.block.new.self (task.Went c.args.set) (λ e. own e block_due (block_of c.args.body.now))
    c.in_ok-later.ensures.ok c.in_ok-later.ensures.rest c.in_ok-block.ensures.fewer
