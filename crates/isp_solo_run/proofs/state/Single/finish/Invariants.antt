use Rattle.std.proofs.Common.{◌≡◌}
use Rattle.isp_solo_run.specs.Tasks.{rest, store_seen, due_now}
use Rattle.isp_solo_run.proofs.state.Single.finish.Given as goal

abbrev pub invariant-loop-task : goal.invariant-loop-task
invariant-loop-task l = rest l.initial.self (store_seen l.initial.self) ≡ rest l.self (store_seen l.self)

abbrev pub decreases-loop-task : goal.decreases-loop-task
decreases-loop-task l = due_now l.self
