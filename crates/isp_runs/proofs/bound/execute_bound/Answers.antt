use Rattle.isp_runs.proofs.BoundRuns.{means_bound, not_meant, each_err, each_ok}
use Rattle.isp_runs.proofs.bound.execute_bound.Goals as goal

pub returns-clause-machine : goal.returns-clause-machine
returns-clause-machine c = rw (← c.verified-code.ensures) c.run_for_gang.ensures.ran

pub returns-clause-refused : goal.returns-clause-refused
returns-clause-refused c = rw (← c.verified-code.ensures) c.run_for_gang.ensures.refused

pub returns-clause-means : goal.returns-clause-means
returns-clause-means c =
    each_ok c.run_for_gang.result _ _
    (λ r ran gang text k. means_bound k.program c.args.image.now k.agrees c.args.entry.now c.args.bound.arguments.items k.accepted c.told.ensures c.args.budget r ran) (returns-clause-machine c)

pub returns-clause-not_meant : goal.returns-clause-not_meant
returns-clause-not_meant c =
    each_err c.run_for_gang.result _ _
    (λ e refused gang text k. not_meant k.program c.args.image.now k.agrees c.args.entry.now c.args.bound.arguments.items e.1 refused) (returns-clause-refused c)
