use Rattle.std.proofs.Common.{◌≡◌, map}
use Rattle.isp_base.specs.Arguments.{rows}
use Rattle.isp_solo_run.proofs.Started.{so_far}
use Rattle.isp_solo_run.proofs.starting.bound_arrays.Given as goal

abbrev pub invariant-loop-place : goal.invariant-loop-place
invariant-loop-place l = so_far rows (map (λ a. a.now) l.arrays.items) l.place l.arguments ≡ rows l.arguments
