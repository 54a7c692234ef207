use Rattle.std.proofs.Common.{◌≡◌, length, take}
use Rattle.isp_exprs.proofs.scope.Scope.leave.Given as goal

abbrev pub invariant-loop-self : goal.invariant-loop-self
invariant-loop-self l = take l.start l.self ≡ take l.start l.initial.self

abbrev pub decreases-loop-self : goal.decreases-loop-self
decreases-loop-self l = length l.self
