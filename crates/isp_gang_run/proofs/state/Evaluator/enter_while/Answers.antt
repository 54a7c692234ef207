use Rattle.isp_gang_run.proofs.Progress.{leaves_as}
use Rattle.isp_gang_run.specs.Due.{own, test_due}
use Rattle.isp_gang_run.specs.declared.loops.Turning.{Turning}
use Rattle.std.proofs.Common.{None, Some, ap, sym}
use Rattle.isp_base.specs.Sets.{flag_of}
use Rattle.isp_gang_run.specs.Arms.{enters}
use Rattle.isp_gang_run.specs.Tasks.{Halts}
use Rattle.isp_gang_run.proofs.Arms.{enters_tests, enters_tests_halts}
use Rattle.isp_gang_run.proofs.Turns.{at_err}
use Rattle.isp_gang_run.proofs.state.Evaluator.enter_while.Goals as goal

pub returns-in_err-test-clause-err : goal.returns-in_err-test-clause-err
returns-in_err-test-clause-err c =
    at_err c.from_residual.result c.in_err-test.field-0.0 (Halts c.args.self.now c.test.new.self (enters c.args.self.now None (Some c.args.test) None c.args.body (flag_of c.args.set))) c.from_residual.ensures.1
    (enters_tests_halts c.args.self.now c.test.new.self c.tick.new.self c.tick.ensures c.args.set (Some c.args.test) None c.args.body
    c.new-turning.result c.new-turning.ensures.entered c.new-turning.ensures.returned c.in_err-test.field-0.0 c.in_err-test.ensures.err)

pub returns-clause-ok : goal.returns-clause-ok
returns-clause-ok c =
    enters_tests c.args.self.now c.test.new.self c.tick.new.self c.tick.ensures c.args.set (Some c.args.test) None c.args.body c.new-turning.result c.new-turning.ensures.entered c.new-turning.ensures.returned c.in_ok-test.ensures.ok

pub returns-clause-fewer : goal.returns-clause-fewer
returns-clause-fewer c =
    leaves_as c.args.self.now c.test.new.self c.args.self.now.left (ap (λ (t : Turning). own c.args.self.now test_due t.looping t.left) (sym c.new-turning.ensures.entered)) c.in_ok-test.ensures.fewer
