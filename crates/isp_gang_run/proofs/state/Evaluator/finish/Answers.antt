use Rattle.std.proofs.Common.{refl, ap, ◌∙◌, ◌++◌, ◌≡◌, length, arith, Option}
use Rattle.std.specs.Prelude.{option_to_list}
use Rattle.isp_gang_run.specs.Tasks.{Halts, rest}
use Rattle.isp_gang_run.specs.declared.tasks.Task.{Task}
use Rattle.isp_gang_run.proofs.Leading.{leads_begin, leads_next, leads_halt, leads_done}
use Rattle.isp_gang_run.proofs.Progress.{done_leaves}
use Rattle.isp_gang_run.proofs.Turns.{at_err}
use Rattle.isp_gang_run.proofs.state.Evaluator.finish.Goals as goal

pub loop-task-init : goal.loop-task-init
loop-task-init c = leads_begin c.args.self.now

pub loop-task-preserved : goal.loop-task-preserved
loop-task-preserved c =
    let now = c.loop-task.self in
    leads_next c.args.self.now now (record now { tasks = c.pop.new.self }) c.in-Some.task c.loop-task.invariant
    (c.pop.ensures.items ∙ ap (λ (o : Option Task). c.pop.new.self.items ++ option_to_list o) c.in-Some.is) refl c.act.new.self
    c.in_ok-act.ensures.ok

pub loop-task-smaller : goal.loop-task-smaller
loop-task-smaller c =
    let now = c.loop-task.self in
    done_leaves now (record now { tasks = c.pop.new.self }) c.act.new.self c.in-Some.task
    (c.pop.ensures.items ∙ ap (λ (o : Option Task). c.pop.new.self.items ++ option_to_list o) c.in-Some.is) refl c.in_ok-act.ensures.fewer

pub returns-in_err-act-clause-err : goal.returns-in_err-act-clause-err
returns-in_err-act-clause-err c =
    let now = c.loop-task.self in
    at_err c.from_residual.result c.in_err-act.field-0.0 (Halts c.args.self.now c.act.new.self (rest c.args.self.now)) c.from_residual.ensures.1
    (leads_halt c.args.self.now now (record now { tasks = c.pop.new.self }) c.in-Some.task c.loop-task.invariant
    (c.pop.ensures.items ∙ ap (λ (o : Option Task). c.pop.new.self.items ++ option_to_list o) c.in-Some.is) refl c.act.new.self
    c.in_err-act.field-0.0 c.in_err-act.ensures.err)

pub returns-clause-ok : goal.returns-clause-ok
returns-clause-ok c =
    let now = c.loop-task.self in
    let none = c.in_default.ensures.cases in
    let zero : length now.tasks.items ≡ 0 = omega (arith, none.0) in
    leads_done c.args.self.now now (record now { tasks = c.pop.new.self }) c.loop-task.invariant zero refl
