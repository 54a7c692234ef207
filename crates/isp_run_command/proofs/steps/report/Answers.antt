use Rattle.std.proofs.Common.{ℕ, subst}
use Rattle.isp_runs.specs.BoundReports.{MeansBound}
use Rattle.isp_run_command.proofs.steps.report.Goals as goal

pub returns-in-Ok-clause-means : goal.returns-in-Ok-clause-means
returns-in-Ok-clause-means c = λ gang text compiled.
    subst (λ (n : ℕ). MeansBound compiled.program c.args.request.now.entry.now c.args.bound.arguments.items n c.in-Ok.report) c.limit-budget.ensures (c.in-Ok.ensures.means gang text compiled)
