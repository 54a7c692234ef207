use Rattle.std.proofs.Common.{◌≡◌, ◌+◌, ℕ, List, length}
use Rattle.isp_independence.specs.Tables.{lists_of}
use Rattle.isp_independence.specs.reader.Paths.{IsReversed}
use Rattle.isp_independence.specs.reader.Visits.{without}
use Rattle.isp_independence.proofs.Visiting.{Spreading}
use Rattle.isp_independence.proofs.spread.spread.Given as goal

abbrev pub invariant-loop-function : goal.invariant-loop-function
invariant-loop-function l =
    (calls : List (List ℕ)) → IsReversed calls (lists_of l.callers) → length l.fn.found.items ≡ length calls
    → Spreading calls l.breach.function l.breach.dependence l.fn.found.items l.found.items l.waiting.items

abbrev pub decreases-loop-function : goal.decreases-loop-function
decreases-loop-function l = without l.found.items + length l.waiting.items
