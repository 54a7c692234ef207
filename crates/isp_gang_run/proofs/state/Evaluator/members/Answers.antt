use Rattle.isp_gang_run.specs.declared.state.Evaluator.{Evaluator}
use Rattle.isp_gang_run.proofs.Fewer.{member_less}
use Rattle.isp_gang_run.specs.Due.{WaitBoth, due_now, members_due, own}
use Rattle.isp_gang_run.proofs.Progress.{leaves_as, same_leaves}
use Rattle.std.proofs.Common.{sym, ap, ◌∙◌, subst}
use Rattle.isp_base.specs.Sets.{flag_of, lowest}
use Rattle.isp_base.specs.Types.{gang_width}
use Rattle.isp_gang_run.proofs.Foreach.{no_member, member_goes}
use Rattle.isp_gang_run.specs.declared.tasks.Task.TheVariants as task
use Rattle.isp_gang_run.proofs.state.Evaluator.members.Goals as goal

pub returns-in-None-clause-ok : goal.returns-in-None-clause-ok
returns-in-None-clause-ok c =
    let x = c.deref.result.now in
    no_member c.args.self.now c.args.members x.index x.body x.left x.set (sym c.deref.ensures) c.leave.new.self c.all.result
    (ap (λ g. lowest (gang_width g) (flag_of x.left)) (sym c.gang.ensures) ∙ sym c.lowest.ensures ∙ c.in-None.is) c.all.ensures c.leave.ensures

pub returns-clause-ok : goal.returns-clause-ok
returns-clause-ok c =
    let x = c.deref.result.now in
    member_goes c.args.self.now c.args.members x.index x.body x.left x.set (sym c.deref.ensures) c.write.new.self c.both.new.self c.tick.new.self c.tick.ensures c.in-Some.instance c.alone-one.result c.without.result c.in_ok-others-in-Some.others
    (ap (λ g. lowest (gang_width g) (flag_of x.left)) (sym c.gang.ensures) ∙ sym c.lowest.ensures ∙ c.in-Some.is) c.alone-one.ensures c.without.ensures c.in_ok-others-in-Some.ensures.ok c.in_ok-write-in-Some.ensures.ok c.in_ok-both-in-Some.ensures.ok

pub returns-in-None-clause-fewer : goal.returns-in-None-clause-fewer
returns-in-None-clause-fewer c =
    same_leaves c.args.self.now c.leave.new.self (own c.args.self.now members_due c.args.members.value) (ap (λ (e : Evaluator). due_now e) c.leave.ensures)

pub returns-clause-fewer : goal.returns-clause-fewer
returns-clause-fewer c =
    let x = c.deref.result.now in
    let others = c.in_ok-others-in-Some.others in
    leaves_as c.args.self.now c.both.new.self c.args.self.now.left (member_less c.args.self.now c.args.members others x.index x.body x.left x.set c.in-Some.instance c.alone-one.result c.without.result (sym c.deref.ensures)
    (ap (λ g. lowest (gang_width g) (flag_of x.left)) (sym c.gang.ensures) ∙ sym c.lowest.ensures ∙ c.in-Some.is) c.alone-one.ensures c.without.ensures c.in_ok-others-in-Some.ensures.ok)
    (subst (λ (e : Evaluator). WaitBoth e c.both.new.self (task.Run x.body c.alone-one.result) (task.Members others)) c.in_ok-write-in-Some.ensures.ok.same c.in_ok-both-in-Some.ensures.fewer)
