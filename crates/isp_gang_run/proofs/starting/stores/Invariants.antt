use Rattle.std.proofs.Common.{◌≡◌, map}
use Rattle.isp_gang_run.proofs.Fitting.{FitFrom}
use Rattle.isp_gang_run.proofs.Started.{bits_in, so_far}
use Rattle.isp_gang_run.proofs.starting.stores.Given as goal

abbrev pub invariant-loop-place : goal.invariant-loop-place
invariant-loop-place l =
    record {
      sofar : so_far bits_in (map (λ v. v.items) l.stores.items) l.place l.arguments ≡ bits_in l.arguments;
      fits : FitFrom l.place l.arguments;
    }
