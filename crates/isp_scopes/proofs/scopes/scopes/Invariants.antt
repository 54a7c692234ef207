use Rattle.std.proofs.Common.{◌≡◌, ◌≤◌, [], drop, reverse}
use Rattle.isp_scopes.specs.Scopes.{scan, start}
use Rattle.isp_scopes.proofs.scopes.scopes.Given as goal

abbrev pub invariant-loop-i : goal.invariant-loop-i
invariant-loop-i l = record {
  same : scan l.i l.at (reverse l.found.items) (drop l.i l.tokens) ≡ scan 0 start [] l.tokens;
  shallow : l.at.depth ≤ l.i;
  few : l.at.brackets ≤ l.i;
}
