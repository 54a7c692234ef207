-- What a lane finds, where it is on and where it is off.
use Rattle.std.proofs.Common.{◌≡◌, ap, ℕ, true, false, Some, None}
use Rattle.std.specs.Prelude.{if◌then◌else◌}
use Rattle.isp_base.specs.Maps.{Lanes, on, each1, or_old}
use Rattle.isp_base.specs.Sets.{Mask}

-- a lane that is on gets what a function makes of its bits; one that is off keeps its own
pub lane_on : (f : ℕ → ℕ) (a : Mask) (x : Lanes) (old p : ℕ) → a p ≡ true → or_old (each1 f (on a x p)) old ≡ f (x p)
lane_on f a x old p e = ap (λ b. or_old (each1 f (if b then Some (x p) else None)) old) e

pub lane_off : (f : ℕ → ℕ) (a : Mask) (x : Lanes) (old p : ℕ) → a p ≡ false → or_old (each1 f (on a x p)) old ≡ old
lane_off f a x old p e = ap (λ b. or_old (each1 f (if b then Some (x p) else None)) old) e
