use Rattle.std.proofs.Common.{◌≡◌, ◌≤◌, take}
use Rattle.std.specs.List.{count_by}
use Rattle.isp_positions.specs.Positions.{line_ends}
use Rattle.isp_positions.proofs.position.lines.Given as goal

abbrev pub invariant-loop-k : goal.invariant-loop-k
invariant-loop-k l = (l.count ≡ count_by (λ ends. ends) (take l.k (line_ends l.text))) × (l.count ≤ l.k)
