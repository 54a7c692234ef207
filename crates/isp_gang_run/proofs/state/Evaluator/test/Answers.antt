use Rattle.isp_typed.specs.Views.{expr_of}
use Rattle.isp_gang_run.proofs.Progress.{leaves_as}
use Rattle.std.specs.Prelude.{option_map}
use Rattle.isp_gang_run.specs.Most.{test_most, two}
use Rattle.isp_gang_run.specs.Due.{call_due, own, turns_due, value_due}
use Rattle.isp_typed.specs.declared.expr.TypedExpr.{TypedExpr}
use Rattle.isp_gang_run.specs.declared.loops.Turning.{Turning}
use Rattle.std.proofs.Common.{refl, Bor, Option, ap, sym, ◌∙◌}
use Rattle.isp_gang_run.specs.Tasks.{Halts, tests_on}
use Rattle.isp_gang_run.proofs.Turns.{at_err, no_test_halts, test_goes}
use Rattle.isp_gang_run.proofs.state.Evaluator.test.Goals as goal

pub returns-in_ok-both-in-Some-clause-ok : goal.returns-in_ok-both-in-Some-clause-ok
returns-in_ok-both-in-Some-clause-ok c =
    test_goes c.args.self.now c.both.new.self c.args.turning c.in_ok-after-in-Some.after c.in-Some.test c.in_ok-after-in-Some.ensures.ok c.in-Some.is c.in_ok-both-in-Some.ensures.ok

pub returns-in_err-tested-in-None-clause-err : goal.returns-in_err-tested-in-None-clause-err
returns-in_err-tested-in-None-clause-err c =
    at_err c.from_residual-in_err-tested-in-None.result c.in_err-tested-in-None.field-0.0 (Halts c.args.self.now c.tested.new.self (tests_on c.args.self.now c.args.turning)) c.from_residual-in_err-tested-in-None.ensures.1
    (no_test_halts c.args.self.now _ c.tested.new.self c.args.turning c.in_err-tested-in-None.field-0.0 refl c.in-None.is c.in_err-tested-in-None.ensures.err)

pub returns-in_ok-both-in-Some-clause-fewer : goal.returns-in_ok-both-in-Some-clause-fewer
returns-in_ok-both-in-Some-clause-fewer c =
    leaves_as c.args.self.now c.both.new.self c.args.self.now.left (ap (λ (o : Option (Bor TypedExpr)). test_most (own c.args.self.now call_due) (option_map (λ x. expr_of x.now) o) (own c.args.self.now turns_due c.args.turning.looping c.args.turning.left)) c.in-Some.is
    ∙ ap (λ (t : Turning). two (own c.args.self.now value_due (expr_of c.in-Some.test.now)) (own c.args.self.now turns_due t.looping t.left)) (sym c.in_ok-after-in-Some.ensures.ok)) c.in_ok-both-in-Some.ensures.fewer

pub returns-in_ok-tested-in-None-clause-fewer : goal.returns-in_ok-tested-in-None-clause-fewer
returns-in_ok-tested-in-None-clause-fewer c =
    leaves_as c.args.self.now c.tested.new.self c.args.self.now.left (ap (λ (o : Option (Bor TypedExpr)). test_most (own c.args.self.now call_due) (option_map (λ x. expr_of x.now) o) (own c.args.self.now turns_due c.args.turning.looping c.args.turning.left)) c.in-None.is) c.in_ok-tested-in-None.ensures.fewer
