use Rattle.std.proofs.Common.{map}
use Rattle.isp_gang_run.specs.Entering.{one_at}
use Rattle.isp_gang_run.specs.Seen.{passed_seen}
use Rattle.isp_gang_run.proofs.Begun.{Listed}
use Rattle.isp_gang_run.proofs.entering.uniforms.Given as goal

abbrev pub invariant-loop-place : goal.invariant-loop-place
invariant-loop-place l = Listed (λ x. x) 0 (one_at l.variables (map passed_seen l.passed)) l.values.items l.place
