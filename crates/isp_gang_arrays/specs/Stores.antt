-- Stores, and arrays of which each instance has its own: they read 0 where nothing was written.
use Rattle.std.specs.Prelude.{ℕ, List, Option, Some, None, if◌then◌else◌}
use Rattle.std.proofs.Common.{Vec, Global}
use Rattle.isp_base.specs.Maps.{Lanes, put}
use Rattle.isp_base.specs.Sets.{Mask}
use Rattle.isp_gang_values.specs.Growing.{at_each, values_of, lanes_of}

-- the elements of stores by number, and of arrays of which each instance has its own
abbrev pub stores_of : List (Vec ℕ Global) → ℕ → ℕ → ℕ
stores_of = at_each (λ v. values_of v.items) (λ e. 0)

abbrev pub own_of : List (Vec (List ℕ) Global) → ℕ → ℕ → Lanes
own_of = at_each (λ v. lanes_of v.items) (λ e p. 0)

-- lanes of which those of a set are 0
abbrev pub with_zeros : Mask → Lanes → Lanes
with_zeros a x p = if a p then 0 else x p

-- what an instance stores at its place, if there are a place and a value
abbrev pub put_own_at : ℕ → Option ℕ → Option ℕ → (ℕ → Lanes) → ℕ → Lanes
put_own_at i None y f = f
put_own_at i (Some x) None f = f
put_own_at i (Some x) (Some y) f = put f x (put (f x) i y)
