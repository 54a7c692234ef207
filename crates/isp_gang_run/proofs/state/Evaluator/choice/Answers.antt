use Rattle.isp_typed.specs.Views.{expr_of}
use Rattle.std.proofs.Common.{ap, sym}
use Rattle.isp_gang_run.proofs.Progress.{leaves_as}
use Rattle.isp_gang_run.specs.declared.tasks.Branches.{Branches}
use Rattle.isp_gang_run.specs.Due.{branch_due, own, value_due}
use Rattle.isp_gang_run.specs.Most.{two}
use Rattle.isp_gang_run.proofs.Arms.{chosen}
use Rattle.isp_gang_run.proofs.state.Evaluator.choice.Goals as goal

pub returns-clause-ok : goal.returns-clause-ok
returns-clause-ok c =
    chosen c.args.self.now c.both.new.self c.tick.new.self c.tick.ensures c.in_ok-after.after c.args.test c.args.then c.args.otherwise c.args.set c.in_ok-after.ensures.ok c.in_ok-both.ensures.ok

pub returns-clause-fewer : goal.returns-clause-fewer
returns-clause-fewer c =
    leaves_as c.args.self.now c.both.new.self c.args.self.now.left (ap (λ (b : Branches). two (own c.args.self.now value_due (expr_of c.args.test.now)) (own c.args.self.now branch_due b.then b.otherwise)) (sym c.in_ok-after.ensures.ok)) c.in_ok-both.ensures.fewer
