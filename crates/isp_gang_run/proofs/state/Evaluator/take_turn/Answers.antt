use Rattle.isp_gang_run.proofs.Progress.{leaves_ok}
use Rattle.isp_gang_run.specs.Due.{Leaves, own, step_due, test_due, turns_due}
use Rattle.std.proofs.Common.{subst, OnOk, IfErr}
use Rattle.isp_gang_run.specs.Tasks.{Comes, Halts, tests_on, keeps_on, turned_on}
use Rattle.isp_gang_run.specs.declared.loops.Turning.{Turning}
use Rattle.isp_gang_run.specs.declared.tasks.Task.TheVariants as task
use Rattle.isp_gang_run.proofs.Acting.{comes_ok, halts_err, refused_err}
use Rattle.isp_gang_run.proofs.state.Evaluator.take_turn.Goals as goal

pub returns-in-Test-clause-ok : goal.returns-in-Test-clause-ok
returns-in-Test-clause-ok c = comes_ok c.args.self.now c.test.new.self c.args.task (task.Test c.in-Test.turning) c.in-Test.is c.test.result
    (subst (λ (k : Turning). OnOk c.test.result (Comes c.args.self.now c.test.new.self (tests_on c.args.self.now k))) c.deref.ensures
    c.test.ensures.ok)

pub returns-in-Test-clause-err : goal.returns-in-Test-clause-err
returns-in-Test-clause-err c = halts_err c.args.self.now c.test.new.self c.args.task (task.Test c.in-Test.turning) c.in-Test.is c.test.result
    (subst (λ (k : Turning). IfErr c.test.result (Halts c.args.self.now c.test.new.self (tests_on c.args.self.now k))) c.deref.ensures
    c.test.ensures.err)

pub returns-in-Tested-clause-ok : goal.returns-in-Tested-clause-ok
returns-in-Tested-clause-ok c = comes_ok c.args.self.now c.tested.new.self c.args.task (task.Tested c.in-Tested.turning) c.in-Tested.is
    c.tested.result (subst (λ (k : Turning). OnOk c.tested.result (Comes c.args.self.now c.tested.new.self (keeps_on c.args.self.now k)))
    c.deref-in-Tested.ensures c.tested.ensures.ok)

pub returns-in-Tested-clause-err : goal.returns-in-Tested-clause-err
returns-in-Tested-clause-err c = halts_err c.args.self.now c.tested.new.self c.args.task (task.Tested c.in-Tested.turning) c.in-Tested.is
    c.tested.result (subst (λ (k : Turning). IfErr c.tested.result (Halts c.args.self.now c.tested.new.self (keeps_on c.args.self.now k)))
    c.deref-in-Tested.ensures c.tested.ensures.err)

pub returns-in-Turned-clause-ok : goal.returns-in-Turned-clause-ok
returns-in-Turned-clause-ok c = comes_ok c.args.self.now c.turned.new.self c.args.task (task.Turned c.in-Turned.turning) c.in-Turned.is
    c.turned.result (subst (λ (k : Turning). OnOk c.turned.result (Comes c.args.self.now c.turned.new.self (turned_on c.args.self.now k)))
    c.deref-in-Turned.ensures c.turned.ensures.ok)

pub returns-in-Turned-clause-err : goal.returns-in-Turned-clause-err
returns-in-Turned-clause-err c = refused_err c.args.self.now c.turned.new.self c.args.task c.turned.result c.turned.ensures.err

pub returns-in-Test-clause-fewer : goal.returns-in-Test-clause-fewer
returns-in-Test-clause-fewer c =
    leaves_ok c.args.self.now c.test.new.self c.args.task (task.Test c.in-Test.turning) c.in-Test.is c.test.result
    (subst (λ (k : Turning). OnOk c.test.result (Leaves c.args.self.now c.test.new.self (own c.args.self.now test_due k.looping k.left))) c.deref.ensures c.test.ensures.fewer)

pub returns-in-Tested-clause-fewer : goal.returns-in-Tested-clause-fewer
returns-in-Tested-clause-fewer c =
    leaves_ok c.args.self.now c.tested.new.self c.args.task (task.Tested c.in-Tested.turning) c.in-Tested.is c.tested.result
    (subst (λ (k : Turning). OnOk c.tested.result (Leaves c.args.self.now c.tested.new.self (own c.args.self.now turns_due k.looping k.left))) c.deref-in-Tested.ensures c.tested.ensures.fewer)

pub returns-in-Turned-clause-fewer : goal.returns-in-Turned-clause-fewer
returns-in-Turned-clause-fewer c =
    leaves_ok c.args.self.now c.turned.new.self c.args.task (task.Turned c.in-Turned.turning) c.in-Turned.is c.turned.result
    (subst (λ (k : Turning). OnOk c.turned.result (Leaves c.args.self.now c.turned.new.self (own c.args.self.now step_due k.looping k.left))) c.deref-in-Turned.ensures c.turned.ensures.fewer)
