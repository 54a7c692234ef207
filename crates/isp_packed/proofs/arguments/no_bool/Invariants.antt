use Rattle.std.proofs.Common.{ℕ, ◌<◌, ◌≤◌, get_or}
use Rattle.isp_packed.proofs.arguments.no_bool.Given as goal

abbrev pub invariant-loop-place : goal.invariant-loop-place
invariant-loop-place l = ((k : ℕ) → k < l.place → get_or l.bytes k 0 < 2) × (l.place ≤ l.count)
