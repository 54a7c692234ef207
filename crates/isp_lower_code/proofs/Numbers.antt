-- The number that bits of a type stand for is one that the type has.
use Rattle.std.proofs.Common.{◌≡◌, refl, ap, ap₂, ◌∙◌, ℕ, zero, suc, ◌+◌, ◌-◌, ◌%◌, ◌^◌, ◌<◌, ◌≤◌, ◌⊎◌, inl, inr, ℤ, pos, negsuc, ◌-ℤ◌, arith, mod-lt, pow_pos, le-ltb}
use Rattle.std.proofs.lemmas.Int.{ints}
use Rattle.std.specs.Prelude.{Bool, true, false, not, ◌&&◌, int_lt}
use Rattle.isp_base.specs.Values.{width, greatest, number, number_to}
use Rattle.isp_base.specs.declared.types.Elem.{Elem}
use Rattle.isp_base.proofs.Elems.{greatest_lt, number_below, number_above}
use Rattle.isp_code.specs.Fine.{has_value}
use Rattle.isp_lower_code.proofs.Splits.{split_at}

-- the least number: 0, or a negative one
record IsBelow (g m : ℕ) : Type 0 where
  past : ℕ
  is : pos g -ℤ pos m ≡ negsuc past
  far : m ≡ g + suc past

least : (g m : ℕ) → g ≤ m → (pos g -ℤ pos m ≡ pos 0) ⊎ IsBelow g m
least g m le = go (m - g) refl
  where
    go : (n : ℕ) → m - g ≡ n → (pos g -ℤ pos m ≡ pos 0) ⊎ IsBelow g m
    go zero e = inl (omega (arith, ints, e))
    go (suc j) e = inr (record { past = j; is = omega (arith, ints, e); far = omega (arith, e) })

abbrev fits : ℕ → ℕ → ℤ → Bool
fits g m z = not (int_lt (pos g) z) && not (int_lt z (pos g -ℤ pos m))

-- a natural that is not above the greatest
natural_fits : (g m b : ℕ) → g ≤ m → b ≤ g → fits g m (pos b) ≡ true
natural_fits g m b le low = ap₂ (λ c d. not c && not d) (le-ltb g b low) (go (least g m le))
  where
    go : (pos g -ℤ pos m ≡ pos 0) ⊎ IsBelow g m → int_lt (pos b) (pos g -ℤ pos m) ≡ false
    go (inl e) = ap (int_lt (pos b)) e ∙ le-ltb b 0 (omega arith)
    go (inr d) = ap (int_lt (pos b)) d.is

-- bits above it, up to m
negative_fits : (g m b : ℕ) → g < b → b ≤ m → fits g m (negsuc (m - b)) ≡ true
negative_fits g m b low high = go (least g m (omega arith))
  where
    go : (pos g -ℤ pos m ≡ pos 0) ⊎ IsBelow g m → fits g m (negsuc (m - b)) ≡ true
    go (inl e) = absurd (omega (arith, ints, e))
    go (inr d) = ap (λ c. not c) (ap (int_lt (negsuc (m - b))) d.is ∙ le-ltb d.past (m - b) (omega (arith, d.far)))

value_at : (w g b : ℕ) → g < 2 ^ w → b < 2 ^ w → fits g (2 ^ w - 1) (number_to w g b) ≡ true
value_at w g b lg lb = go (split_at g b)
  where
    go : (g < b) ⊎ (b ≤ g) → fits g (2 ^ w - 1) (number_to w g b) ≡ true
    go (inl lt) =
        let e : pos b -ℤ pos (2 ^ w) ≡ negsuc (2 ^ w - 1 - b) = omega (arith, ints) in
        ap (fits g (2 ^ w - 1)) (number_above w g b lt ∙ e) ∙ negative_fits g (2 ^ w - 1) b lt (omega arith)
    go (inr le) = ap (fits g (2 ^ w - 1)) (number_below w g b le) ∙ natural_fits g (2 ^ w - 1) b (omega arith) le

pub number_fits : (t : Elem) (bits : ℕ) → has_value t (number t bits) ≡ true
number_fits t bits = value_at (width t) (greatest t) (bits % 2 ^ width t) (greatest_lt t) (mod-lt bits (pow_pos (width t)))
