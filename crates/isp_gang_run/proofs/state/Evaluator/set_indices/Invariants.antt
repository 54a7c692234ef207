use Rattle.isp_base.specs.Sets.{flag_of}
use Rattle.isp_meaning.specs.Rounds.{set_indices}
use Rattle.isp_gang_run.specs.Tasks.{Changes}
use Rattle.isp_gang_values.proofs.Indices.{indices_to}
use Rattle.isp_gang_run.proofs.state.Evaluator.set_indices.Given as goal

abbrev pub invariant-loop-place : goal.invariant-loop-place
invariant-loop-place l = Changes l.initial.self l.self (set_indices (flag_of l.set) (indices_to l.place l.ranges.items))
