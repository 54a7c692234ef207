use Rattle.std.proofs.Common.{ap, sym, ◌∙◌}
use Rattle.isp_gang_run.proofs.Fewer.{second_as}
use Rattle.isp_gang_run.proofs.Progress.{leaves_as}
use Rattle.isp_gang_run.specs.Due.{own, second_due}
use Rattle.isp_gang_run.specs.declared.tasks.Branches.{Branches}
use Rattle.isp_gang_run.proofs.state.Evaluator.second.Goals as goal

pub returns-clause-fewer : goal.returns-clause-fewer
returns-clause-fewer c =
    leaves_as c.args.self.now c.perhaps.new.self c.args.self.now.left (ap (λ (b : Branches). own c.args.self.now second_due b.otherwise) (sym c.deref.ensures) ∙ second_as c.args.self.now c.deref.result.now.otherwise) c.in_ok-perhaps.ensures.fewer
