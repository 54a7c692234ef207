use Rattle.std.proofs.Common.{◌≡◌, ◌≤◌, ◌<◌, ℕ, false, slice_index}
use Rattle.isp_places.specs.Lines.{is_feed}
use Rattle.isp_places.proofs.place.start_of.Given as goal

-- no line feed stands from here up to the place
abbrev pub invariant-loop-start : goal.invariant-loop-start
invariant-loop-start l = (l.start ≤ l.at) × ((k : ℕ) → l.start ≤ k → k < l.at → is_feed (slice_index l.text k) ≡ false)

abbrev pub decreases-loop-start : goal.decreases-loop-start
decreases-loop-start l = l.start
