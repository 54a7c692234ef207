use Rattle.std.proofs.Common.{◌≡◌, ◌++◌, false, drop}
use Rattle.isp_scopes.specs.Scopes.{heads}
use Rattle.isp_scopes.proofs.functions.functions.Given as goal

abbrev pub invariant-loop-i : goal.invariant-loop-i
invariant-loop-i l = l.found.items ++ heads l.i l.typed (drop l.i l.tokens) ≡ heads 0 false l.tokens
