use Rattle.std.proofs.Common.{◌≡◌, take}
use Rattle.isp_gang_run.proofs.Fitting.{FitBelow}
use Rattle.isp_gang_run.proofs.starting.elements.Given as goal

abbrev pub invariant-loop-place : goal.invariant-loop-place
invariant-loop-place l =
    record {
      sofar : l.values.items ≡ take l.place l.array.bits;
      fits : FitBelow l.place l.array.elem l.array.bits;
    }
