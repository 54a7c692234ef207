use Rattle.std.proofs.Common.{◌≡◌, length, reverse}
use Rattle.isp_scopes.specs.Scopes.{left}
use Rattle.isp_scopes.proofs.scopes.close.Given as goal

abbrev pub invariant-loop-found : goal.invariant-loop-found
invariant-loop-found l = left l.rest l.depth (reverse l.found.items) ≡ left l.rest l.depth (reverse l.initial.found.items)

abbrev pub decreases-loop-found : goal.decreases-loop-found
decreases-loop-found l = length l.found.items
