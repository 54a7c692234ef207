use Rattle.std.proofs.Common.{Bor, Option, ap}
use Rattle.isp_gang_run.specs.declared.state.Evaluator.{Evaluator}
use Rattle.isp_gang_run.specs.Due.{due_now, give_due, own}
use Rattle.isp_typed.specs.declared.expr.TypedExpr.{TypedExpr}
use Rattle.isp_gang_run.proofs.Progress.{leaves_as, same_leaves}
use Rattle.isp_gang_run.proofs.Arms.{gave_nothing, gave}
use Rattle.isp_gang_run.proofs.state.Evaluator.give.Goals as goal

pub returns-in-None-clause-ok : goal.returns-in-None-clause-ok
returns-in-None-clause-ok c = gave_nothing c.args.self.now c.leave.new.self c.tick.new.self c.tick.ensures c.args.value c.args.set c.returned.result c.in-None.is c.returned.ensures c.leave.ensures

pub returns-in_ok-both-in-Some-clause-ok : goal.returns-in_ok-both-in-Some-clause-ok
returns-in_ok-both-in-Some-clause-ok c = gave c.args.self.now c.both.new.self c.tick.new.self c.tick.ensures c.args.value c.in-Some.value c.args.set c.in-Some.is c.in_ok-both-in-Some.ensures.ok

pub returns-in-None-clause-fewer : goal.returns-in-None-clause-fewer
returns-in-None-clause-fewer c =
    same_leaves c.args.self.now c.leave.new.self (own c.args.self.now give_due c.args.value) (ap (λ (e : Evaluator). due_now e) c.leave.ensures)

pub returns-in_ok-both-in-Some-clause-fewer : goal.returns-in_ok-both-in-Some-clause-fewer
returns-in_ok-both-in-Some-clause-fewer c =
    leaves_as c.args.self.now c.both.new.self c.args.self.now.left (ap (λ (o : Option (Bor TypedExpr)). own c.args.self.now give_due o) c.in-Some.is) c.in_ok-both-in-Some.ensures.fewer
