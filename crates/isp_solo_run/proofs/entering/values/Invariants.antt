use Rattle.std.proofs.Common.{map}
use Rattle.isp_solo_run.specs.Entering.{passed_at}
use Rattle.isp_solo_run.specs.Seen.{passed_seen}
use Rattle.isp_solo_run.proofs.Begun.{Listed}
use Rattle.isp_solo_run.proofs.entering.values.Given as goal

abbrev pub invariant-loop-place : goal.invariant-loop-place
invariant-loop-place l = Listed (λ x. x) 0 (passed_at l.rate l.variables (map passed_seen l.passed)) l.values.items l.place
