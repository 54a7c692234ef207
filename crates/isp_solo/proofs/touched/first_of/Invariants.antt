use Rattle.std.proofs.Common.{◌≡◌, ◌<◌, ℕ, false}
use Rattle.isp_solo_run.specs.Touches.{is_clash}
use Rattle.isp_solo.specs.Touched.{touched_seen}
use Rattle.isp_solo.proofs.touched.first_of.Given as goal

abbrev pub invariant-loop-store : goal.invariant-loop-store
invariant-loop-store l = (b e : ℕ) → b < l.store → is_clash (touched_seen l.touched b e) ≡ false
