use Rattle.isp_gang_run.specs.Due.{block_due, own}
use Rattle.isp_typed.specs.Views.{block_of}
use Rattle.isp_gang_run.specs.declared.state.Evaluator.{Evaluator}
use Rattle.isp_gang_run.proofs.Progress.{after_leaves}
use Rattle.std.proofs.Common.{◌≡◌, ◌-◌, length, map, take, ap, ◌∙◌, arith}
use Rattle.isp_meaning.specs.State.{below}
use Rattle.isp_gang_run.specs.Seen.{frame_seen, passed_seen, variables_seen}
use Rattle.isp_gang_run.specs.declared.activation.Activation.{Activation}
use Rattle.isp_gang_run.proofs.Handing.{begin_comes}
use Rattle.isp_gang_run.specs.declared.tasks.Task.TheVariants as task
use Rattle.isp_gang_run.proofs.state.Evaluator.begin.Goals as goal

pub returns-clause-ok : goal.returns-clause-ok
returns-clause-ok c =
    let old = c.args.self.now in
    let n = length old.here.sizes.items in
    begin_comes old c.later.new.self c.block.new.self c.args.function (map passed_seen c.args.passed.now) c.args.set c.in_ok-new.field-0 c.replace-caller.new.dest (old.left - 1) c.truncate.new.self
    c.in_ok-later.ensures.ok c.in_ok-later.ensures.rest
    (c.in_ok-new.ensures.ok ∙ c.replace-caller.ensures.value)
    (c.truncate.ensures.items ∙ (let e : c.len.result ≡ n = omega (arith, c.len.ensures, old.here.sizes.ok.0) in ap (λ k. take k old.stores.items) e))
    (ap frame_seen c.replace-caller.ensures.after ∙ c.in_ok-begun.ensures.frame)
    (λ s. ap (λ (h : Activation). variables_seen h (below n s.arrays) s.out s.work) c.replace-caller.ensures.after ∙ c.in_ok-begun.ensures.state s)
    c.in_ok-block.ensures.ok

pub returns-clause-fewer : goal.returns-clause-fewer
returns-clause-fewer c =
    let base : Evaluator = record c.args.self.now { here = c.replace-caller.new.dest; left = c.args.self.now.left - 1; stores = c.truncate.new.self } in
    after_leaves base c.later.new.self c.block.new.self (task.Return c.in_ok-new.field-0 c.args.self.now.left c.args.self.now.sets c.args.set) (λ e. own e block_due (block_of c.args.function.now.body))
    c.in_ok-later.ensures.ok c.in_ok-later.ensures.rest c.in_ok-block.ensures.fewer
