use Rattle.std.proofs.Common.{◌≡◌, ◌+◌, ◌<◌, ◌∙◌, ◌++◌, ap, arith, length, refl, subst, Option}
use Rattle.std.specs.Prelude.{MatchOption, option_to_list, vec_len}
use Rattle.isp_solo_run.specs.declared.tasks.Task.{Task}
use Rattle.isp_solo_run.proofs.Steps.{leads_next, leads_on, leads_stop, leads_end}
use Rattle.isp_solo_run.proofs.state.Single.finish.Goals as goal

pub loop-task-init : goal.loop-task-init
loop-task-init c =
    refl

pub loop-task-preserved : goal.loop-task-preserved
loop-task-preserved c =
    let now = c.loop-task.self in
    leads_next c.args.self.now now c.pop.new.self c.in-Some.task c.loop-task.invariant (c.pop.ensures.items ∙ ap (λ (o : Option Task). c.pop.new.self.items ++ option_to_list o) c.in-Some.is) c.act.result _ c.act.new.self c.in-Ok.is c.act.ensures

pub loop-task-smaller : goal.loop-task-smaller
loop-task-smaller c =
    let now = c.loop-task.self in
    leads_on c.args.self.now now c.pop.new.self c.in-Some.task c.loop-task.invariant (c.pop.ensures.items ∙ ap (λ (o : Option Task). c.pop.new.self.items ++ option_to_list o) c.in-Some.is) c.act.result _ c.act.new.self c.in-Ok.is c.act.ensures

pub returns-in-Err : goal.returns-in-Err
returns-in-Err c =
    let now = c.loop-task.self in
    leads_stop c.args.self.now now c.pop.new.self c.in-Some.task c.loop-task.invariant
    (c.pop.ensures.items ∙ ap (λ (o : Option Task). c.pop.new.self.items ++ option_to_list o) c.in-Some.is) c.act.result c.in-Err.stop
    c.act.new.self c.in-Err.is c.act.ensures

pub returns : goal.returns
returns c =
    let now = c.loop-task.self in
    let zero : length now.tasks.items < 1 = omega (arith, c.in_default.ensures.cases.0) in
    leads_end c.args.self.now now c.pop.new.self c.loop-task.invariant zero
