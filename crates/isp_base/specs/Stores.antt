-- Arrays by number, the stores, of which the first ones are open; and an array of which each lane has its own.
use Rattle.std.specs.Prelude.{ℕ, nat_lt, nat_eq, if◌then◌else◌}
use Rattle.isp_base.specs.Maps.{Lanes, Map, holds}

-- the stores below a number; there is 0 in those that are not open
abbrev pub below : ℕ → (ℕ → Lanes) → ℕ → Lanes
below n arrays b = if nat_lt b n then arrays b else (λ e. 0)

-- each lane's value at its own place, where there is one
abbrev pub own_put : Map → Lanes → (ℕ → Lanes) → ℕ → Lanes
own_put places y f e p = if holds (λ i. nat_eq i e) (places p) then y p else f e p
