use Rattle.isp_gang_run.proofs.Fewer.{value_less}
use Rattle.isp_gang_run.specs.declared.state.Evaluator.{Evaluator}
use Rattle.isp_gang_run.specs.Due.{WaitBoth, distinct_due, due_now, own}
use Rattle.isp_gang_run.proofs.Progress.{leaves_as, same_leaves}
use Rattle.std.proofs.Common.{sym, ◌∙◌, ap, subst}
use Rattle.isp_gang_run.proofs.Unique.{lowest_is, nobody_left, value_goes}
use Rattle.isp_gang_run.specs.declared.tasks.Task.TheVariants as task
use Rattle.isp_gang_run.proofs.state.Evaluator.distinct.Goals as goal

pub returns-in-None-clause-ok : goal.returns-in-None-clause-ok
returns-in-None-clause-ok c =
    let x = c.deref.result.now in
    nobody_left c.args.self.now c.args.distinct x.unique x.row (sym c.deref.ensures) c.leave.new.self c.all.result
    (lowest_is c.gang.ensures c.who_have.ensures c.lowest.ensures ∙ c.in-None.is) c.all.ensures c.leave.ensures

pub returns-clause-ok : goal.returns-clause-ok
returns-clause-ok c =
    let x = c.deref.result.now in
    value_goes c.args.self.now c.args.distinct x.unique x.row (sym c.deref.ensures) c.write.new.self c.both.new.self c.tick.new.self c.tick.ensures
    c.in-Some.instance c.or_zero-bits.result c.convert.result c.where_same-same.result c.except-rest.result c.in_ok-others-in-Some.others
    (lowest_is c.gang.ensures c.who_have.ensures c.lowest.ensures ∙ c.in-Some.is)
    c.or_zero-bits.ensures c.where_same-same.ensures c.convert.ensures c.except-rest.ensures c.in_ok-others-in-Some.ensures.ok c.in_ok-write-in-Some.ensures.ok c.in_ok-both-in-Some.ensures.ok

pub returns-in-None-clause-fewer : goal.returns-in-None-clause-fewer
returns-in-None-clause-fewer c =
    same_leaves c.args.self.now c.leave.new.self (own c.args.self.now distinct_due c.args.distinct.value) (ap (λ (e : Evaluator). due_now e) c.leave.ensures)

pub returns-clause-fewer : goal.returns-clause-fewer
returns-clause-fewer c =
    let x = c.deref.result.now in
    let others = c.in_ok-others-in-Some.others in
    leaves_as c.args.self.now c.both.new.self c.args.self.now.left (value_less c.args.self.now c.args.distinct others x.unique x.row c.except-rest.result c.in-Some.instance c.or_zero-bits.result c.where_same-same.result (sym c.deref.ensures)
    (lowest_is c.gang.ensures c.who_have.ensures c.lowest.ensures ∙ c.in-Some.is) c.or_zero-bits.ensures c.where_same-same.ensures c.except-rest.ensures c.in_ok-others-in-Some.ensures.ok)
    (subst (λ (e : Evaluator). WaitBoth e c.both.new.self (task.Run x.unique.body c.where_same-same.result) (task.Distinct others)) c.in_ok-write-in-Some.ensures.ok.same c.in_ok-both-in-Some.ensures.fewer)
