use Rattle.std.proofs.Common.{◌≡◌}
use Rattle.isp_gang_run.proofs.Started.{sizes_in, so_far}
use Rattle.isp_gang_run.proofs.starting.sizes.Given as goal

abbrev pub invariant-loop-place : goal.invariant-loop-place
invariant-loop-place l = so_far sizes_in l.sizes.items l.place l.arguments ≡ sizes_in l.arguments
