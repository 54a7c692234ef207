use Rattle.std.proofs.Common.{◌≡◌, ◌≤◌, ℕ, List, drop, length, reverse}
use Rattle.std.specs.BTreeSet.{contains_text}
use Rattle.isp_scopes.specs.Scopes.{each_once}
use Rattle.isp_scopes.proofs.Once.{is_seen}
use Rattle.isp_scopes.proofs.names.each_once.Given as goal

abbrev pub invariant-loop-left : goal.invariant-loop-left
invariant-loop-left l = record {
  short : l.left ≤ length l.found;
  same : reverse l.once.items ≡ each_once l.tokens (drop l.left l.found);
  known : (w : List ℕ) → contains_text l.seen w ≡ is_seen l.tokens w (drop l.left l.found);
}

abbrev pub decreases-loop-left : goal.decreases-loop-left
decreases-loop-left l = l.left
