use Rattle.isp_solo_meaning.specs.Loops.{at_indices}
use Rattle.isp_solo_run.specs.Tasks.{Changes}
use Rattle.isp_gang_values.proofs.Indices.{indices_to}
use Rattle.isp_solo_run.proofs.state.Single.set_indices.Given as goal

abbrev pub invariant-loop-place : goal.invariant-loop-place
invariant-loop-place l = Changes l.initial.self l.self (at_indices l.initial.self.setting.instance (indices_to l.place l.ranges.items))
