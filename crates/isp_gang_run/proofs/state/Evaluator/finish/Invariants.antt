use Rattle.isp_gang_run.specs.Due.{due_now}
use Rattle.isp_gang_run.specs.Ends.{Leads}
use Rattle.isp_gang_run.proofs.state.Evaluator.finish.Given as goal

abbrev pub invariant-loop-task : goal.invariant-loop-task
invariant-loop-task l = Leads l.initial.self l.self

abbrev pub decreases-loop-task : goal.decreases-loop-task
decreases-loop-task l = due_now l.self
