-- The elements of packed calls, made instance by instance, and what is stored at them.
use Rattle.std.proofs.Common.{◌≡◌, refl, ap, ap₂, ℕ, zero, suc, Bool, true, false, ◌&&◌, List, Option, Some, None, ℤ, unsigned_abs, arith, rules, length}
use Rattle.std.specs.Prelude.{if◌then◌else◌}
use Rattle.isp_base.specs.Access.{is_beyond, put_at, scatter}
use Rattle.isp_base.specs.Cross.{packed_index, packed_outside, packed_places}
use Rattle.isp_base.specs.Maps.{Lanes, Map}
use Rattle.isp_base.specs.Sets.{Mask, flag_of, lowest, or_this}
use Rattle.isp_base.specs.Types.{widest}
use Rattle.isp_gang_values.specs.Seen.{map_of}
use Rattle.isp_gang_values.proofs.Made.{Made, made, past}
use Rattle.isp_gang_arrays.specs.Packing.{place_at, places_at}

pub outside_made : (n : ℕ) (z : ℤ) (set out : List Bool) → length set ≡ widest → Made false (packed_outside n z (flag_of set)) out widest → flag_of out ≡ packed_outside n z (flag_of set)
outside_made n z set out long m = made false _ out widest m (λ p h. ap (λ b. b && is_beyond n (packed_index z (flag_of set) p)) (past set p false (omega (arith, long, h))))

pub places_made : (n : ℕ) (z : ℤ) (set : List Bool) (places : List (Option ℕ)) → length set ≡ widest → Made None (places_at n z (flag_of set)) places widest → map_of places ≡ places_at n z (flag_of set)
places_made n z set places long m = made None _ places widest m (λ p h. ap (λ b. if b then place_at n (packed_index z (flag_of set) p) else None) (past set p false (omega (arith, long, h))))

-- where no element is outside, they are stored at their places
one_place : (b t : Bool) (i : ℕ) → (b && t) ≡ false → (if b then (if t then None else Some i) else None) ≡ (if b then Some i else None)
one_place true true i e = absurd (true_is_not_false e)
  where
    true_is_not_false : true ≡ false → ⊥
    true_is_not_false e = search rules
one_place true false i e = refl
one_place false t i e = refl

below_lowest : (n : ℕ) (m : Mask) → lowest (suc n) m ≡ None → (lowest n m ≡ None) × (m n ≡ false)
below_lowest n m e = by (lowest n m) (m n) e
  where
    by : (o : Option ℕ) (b : Bool) → or_this o b n ≡ None → (o ≡ None) × (b ≡ false)
    by (Some p) b e = absurd (some_is_not_none e)
      where
        some_is_not_none : Some p ≡ None → ⊥
        some_is_not_none e = search rules
    by None true e = absurd (some_is_not_none e)
      where
        some_is_not_none : Some n ≡ None → ⊥
        some_is_not_none e = search rules
    by None false e = (refl, refl)

pub stored_within : (gang n : ℕ) (z : ℤ) (a : Mask) (x : Map) (f : Lanes) → lowest gang (packed_outside n z a) ≡ None → scatter gang (places_at n z a) x f ≡ scatter gang (packed_places z a) x f
stored_within zero n z a x f e = refl
stored_within (suc g) n z a x f e =
    let h = below_lowest g (packed_outside n z a) e in
    ap₂ (λ (o : Option ℕ) (k : Lanes). put_at o (x g) k) (one_place (a g) (is_beyond n (packed_index z a g)) (unsigned_abs (packed_index z a g)) h.1) (stored_within g n z a x f h.0)
