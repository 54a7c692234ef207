use Rattle.isp_typed.specs.declared.stmt.TypedFirst.{TypedFirst}
use Rattle.isp_gang_run.specs.declared.state.Evaluator.{Evaluator}
use Rattle.isp_gang_run.specs.Due.{due_now, first_due, own}
use Rattle.std.proofs.Common.{Bor, Option, ap}
use Rattle.isp_gang_run.proofs.Progress.{leaves_as, same_leaves}
use Rattle.isp_gang_run.proofs.state.Evaluator.first.Goals as goal

pub returns-in-None-clause-fewer : goal.returns-in-None-clause-fewer
returns-in-None-clause-fewer c =
    same_leaves c.args.self.now c.forget.new.self (own c.args.self.now first_due c.args.first) (ap (λ (e : Evaluator). due_now e) c.forget.ensures)

pub returns-in_ok-some_first-in-Some-clause-fewer : goal.returns-in_ok-some_first-in-Some-clause-fewer
returns-in_ok-some_first-in-Some-clause-fewer c =
    leaves_as c.args.self.now c.some_first.new.self c.args.self.now.left (ap (λ (o : Option (Bor TypedFirst)). own c.args.self.now first_due o) c.in-Some.is) c.in_ok-some_first-in-Some.ensures.fewer
