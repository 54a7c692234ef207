use Rattle.std.proofs.Common.{map}
use Rattle.isp_base.specs.Maps.{lane_of}
use Rattle.isp_base.specs.Sets.{flag_of}
use Rattle.isp_gang_run.specs.Entering.{each_at}
use Rattle.isp_gang_run.specs.Seen.{passed_seen}
use Rattle.isp_gang_run.proofs.Begun.{Listed}
use Rattle.isp_gang_run.proofs.entering.varying.Given as goal

abbrev pub invariant-loop-place : goal.invariant-loop-place
invariant-loop-place l = Listed lane_of (λ p. 0) (each_at l.variables (map passed_seen l.passed) (flag_of l.set)) l.values.items l.place
