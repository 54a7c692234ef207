use Rattle.isp_typed.specs.declared.stmt.TypedStmt.{TypedStmt}
use Rattle.std.proofs.Common.{Bor, Option, ap}
use Rattle.isp_gang_run.specs.declared.state.Evaluator.{Evaluator}
use Rattle.isp_gang_run.specs.Due.{due_now, own, perhaps_due}
use Rattle.isp_gang_run.proofs.Progress.{leaves_as, same_leaves}
use Rattle.isp_gang_run.proofs.Branching.{all_go_on}
use Rattle.isp_gang_run.proofs.state.Evaluator.run_or_go.Goals as goal

pub returns-in-None-clause-ok : goal.returns-in-None-clause-ok
returns-in-None-clause-ok c = all_go_on c.args.self.now c.leave.new.self c.args.set c.all.result c.args.statement c.in-None.is c.all.ensures c.leave.ensures

pub returns-in-None-clause-fewer : goal.returns-in-None-clause-fewer
returns-in-None-clause-fewer c =
    same_leaves c.args.self.now c.leave.new.self (own c.args.self.now perhaps_due c.args.statement) (ap (λ (e : Evaluator). due_now e) c.leave.ensures)

pub returns-in_ok-later-in-Some-clause-fewer : goal.returns-in_ok-later-in-Some-clause-fewer
returns-in_ok-later-in-Some-clause-fewer c =
    leaves_as c.args.self.now c.later.new.self c.args.self.now.left (ap (λ (o : Option (Bor TypedStmt)). own c.args.self.now perhaps_due o) c.in-Some.is) c.in_ok-later-in-Some.ensures.fewer
