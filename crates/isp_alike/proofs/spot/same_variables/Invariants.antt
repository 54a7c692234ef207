use Rattle.std.proofs.Common.{◌≡◌, drop}
use Rattle.isp_alike.proofs.spot.same_variables.Given as goal

abbrev pub invariant-loop-x : goal.invariant-loop-x
invariant-loop-x l = drop l.x-index l.xs ≡ l.rest → l.xs ≡ l.ys
