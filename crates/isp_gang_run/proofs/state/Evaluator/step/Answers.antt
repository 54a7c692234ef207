use Rattle.isp_typed.specs.Views.{simple_of}
use Rattle.isp_gang_run.proofs.Progress.{leaves_as}
use Rattle.std.specs.Prelude.{option_map}
use Rattle.isp_typed.specs.declared.stmt.TypedSimple.{TypedSimple}
use Rattle.std.proofs.Common.{Bor, Option, ap, sym, ◌∙◌}
use Rattle.isp_gang_run.specs.Due.{call_due, own, simple_due, test_due}
use Rattle.isp_gang_run.specs.Most.{one, step_most, two}
use Rattle.isp_gang_run.specs.declared.loops.Turning.{Turning}
use Rattle.isp_gang_run.proofs.Turns.{no_step, step_goes}
use Rattle.isp_gang_run.proofs.Branching.{pushes}
use Rattle.isp_gang_run.specs.declared.tasks.Task.TheVariants as task
use Rattle.isp_gang_run.proofs.state.Evaluator.step.Goals as goal

pub returns-in_ok-both-in-Some-clause-ok : goal.returns-in_ok-both-in-Some-clause-ok
returns-in_ok-both-in-Some-clause-ok c =
    step_goes c.args.self.now c.both.new.self c.args.turning c.in_ok-after.after c.in-Some.step c.in_ok-after.ensures.ok c.in-Some.is c.in_ok-both-in-Some.ensures.ok

pub returns-in_ok-later-in-None-clause-ok : goal.returns-in_ok-later-in-None-clause-ok
returns-in_ok-later-in-None-clause-ok c =
    no_step c.args.self.now c.later.new.self c.args.turning c.in_ok-after.after c.in_ok-after.ensures.ok c.in-None.is
    (pushes c.args.self.now c.later.new.self (task.Test c.in_ok-after.after) c.in_ok-later-in-None.ensures.ok c.in_ok-later-in-None.ensures.rest)

pub returns-in_ok-both-in-Some-clause-fewer : goal.returns-in_ok-both-in-Some-clause-fewer
returns-in_ok-both-in-Some-clause-fewer c =
    leaves_as c.args.self.now c.both.new.self c.args.self.now.left (ap (λ (o : Option (Bor TypedSimple)). step_most (own c.args.self.now call_due) (option_map (λ x. simple_of x.now) o) (own c.args.self.now test_due c.args.turning.looping c.args.turning.left)) c.in-Some.is
    ∙ ap (λ (t : Turning). two (own c.args.self.now simple_due (simple_of c.in-Some.step.now)) (own c.args.self.now test_due t.looping t.left)) (sym c.in_ok-after.ensures.ok)) c.in_ok-both-in-Some.ensures.fewer

pub returns-in_ok-later-in-None-clause-fewer : goal.returns-in_ok-later-in-None-clause-fewer
returns-in_ok-later-in-None-clause-fewer c =
    leaves_as c.args.self.now c.later.new.self c.args.self.now.left (ap (λ (o : Option (Bor TypedSimple)). step_most (own c.args.self.now call_due) (option_map (λ x. simple_of x.now) o) (own c.args.self.now test_due c.args.turning.looping c.args.turning.left)) c.in-None.is
    ∙ ap (λ (t : Turning). one (own c.args.self.now test_due t.looping t.left)) (sym c.in_ok-after.ensures.ok)) c.in_ok-later-in-None.ensures.fewer
