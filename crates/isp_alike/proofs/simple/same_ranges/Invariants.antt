use Rattle.std.proofs.Common.{◌≡◌, drop, map}
use Rattle.isp_typed.specs.Views.{ranges_of}
use Rattle.isp_alike.specs.Bare.{bare_range}
use Rattle.isp_alike.proofs.simple.same_ranges.Given as goal

abbrev pub invariant-loop-x : goal.invariant-loop-x
invariant-loop-x l = map bare_range (ranges_of (drop l.x-index l.xs)) ≡ map bare_range (ranges_of l.rest) → map bare_range (ranges_of l.xs) ≡ map bare_range (ranges_of l.ys)
