use Rattle.std.proofs.Common.{◌≡◌, ◌<◌, ℕ, false}
use Rattle.isp_solo_run.specs.Touches.{is_clash, touch_in}
use Rattle.isp_solo_run.proofs.touches.first_clash.Given as goal

abbrev pub invariant-loop-place : goal.invariant-loop-place
invariant-loop-place l = (e : ℕ) → e < l.place → is_clash (touch_in l.touches e) ≡ false
