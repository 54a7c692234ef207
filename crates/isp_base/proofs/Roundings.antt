-- Quotients, remainders and shifts, and the least value.
use Rattle.std.proofs.Common.{◌≡◌, refl, subst, ℕ, suc, zero, ◌-◌, ◌/◌, ◌%◌, ◌^◌, ◌<◌, ℤ, pos, negsuc, neg_ℤ, ◌≤ℤ◌, ◌<ℤ◌, arith, unsigned_abs, int_div, int_rem, mod-lt, pow_pos}
use Rattle.std.proofs.lemmas.Int.{ints, quot-rem, rem_below}
use Rattle.std.proofs.lemmas.Nat.{div-add-mod'}
use Rattle.std.specs.Int.{int_shr}
use native.Mathlib.Nat.{zero-mod}
use lib.IntN.{negsuc-*ℤ-pos}
use Rattle.isp_base.specs.declared.types.Elem.{Elem}
use Rattle.isp_base.specs.declared.types.Elem.TheVariants.{Bool as Truth, I8, U8, I16, U16, I32, U32, I64, U64}
use Rattle.isp_base.specs.Values.{wrap, wrap_to, number_to, amount}
use Rattle.isp_base.specs.Ranges.{IsSigned, IsUnsigned, SameModulo}
use Rattle.isp_base.specs.Rounding.{IsQuotient, IsFloor, IsLeast, IsItsNegative}
use Rattle.isp_base.proofs.Laws.{residue_of}

-- ---- quotients

rest_above : (x y : ℤ) → pos 0 ≤ℤ x → pos 0 ≤ℤ int_rem x y
rest_above (pos a) (pos n) h = omega (arith, ints)
rest_above (pos a) (negsuc n) h = omega (arith, ints)
rest_above (negsuc a) y h = absurd (omega (arith, ints, h))

rest_below : (x y : ℤ) → x ≤ℤ pos 0 → int_rem x y ≤ℤ pos 0
rest_below (pos zero) (pos n) h = omega (arith, ints, zero-mod n)
rest_below (pos zero) (negsuc n) h = omega (arith, ints, zero-mod (suc n))
rest_below (pos (suc a)) y h = absurd (omega (arith, ints, h))
rest_below (negsuc a) (pos n) h = omega (arith, ints)
rest_below (negsuc a) (negsuc n) h = omega (arith, ints)

pub quotient_is : (x y : ℤ) → (y ≡ pos 0 → ⊥) → IsQuotient x y (int_div x y) (int_rem x y)
quotient_is x y n = record {
  whole = quot-rem x y;
  small = rem_below x y (some y n);
  above = rest_above x y;
  below = rest_below x y;
}
  where
    some : (y : ℤ) → (y ≡ pos 0 → ⊥) → 0 < unsigned_abs y
    some (pos zero) n = absurd (n refl)
    some (pos (suc k)) n = omega arith
    some (negsuc k) n = omega arith

-- ---- shifts

pub floor_is : (x : ℤ) (k : ℕ) → IsFloor x k (int_shr x k)
floor_is (pos n) k = (n % 2 ^ k, (mod-lt n (pow_pos k), omega (arith, ints, div-add-mod' n (2 ^ k))))
floor_is (negsuc n) k =
    let m = 2 ^ k in
    let small = mod-lt n (pow_pos k) in
    (m - 1 - n % m, (omega arith, omega (arith, ints, negsuc-*ℤ-pos (n / m) m, div-add-mod' n m)))

pub amount_is_modulo : (w : ℕ) (y : ℤ) → 0 < w → (amount w y < w) × SameModulo w (pos (amount w y)) y
unfolding amount
amount_is_modulo w y h = residue_of w y h

-- ---- the least value

signed_least : (h : ℕ) (z : ℤ) → IsSigned h z → ((y : ℤ) → IsSigned h y → z ≤ℤ y) → neg_ℤ (pos (2 ^ h)) ≡ z
signed_least h z v l =
    let some = pow_pos h in
    let e = l (neg_ℤ (pos (2 ^ h))) (omega (arith, ints), omega (arith, ints)) in
    omega (arith, ints, e, v.0)

unsigned_least : (w : ℕ) (z : ℤ) → IsUnsigned w z → z <ℤ pos 0 → ⊥
unsigned_least w z v h = omega (arith, ints, v.0, h)

its_negative : (t : Elem) (z y : ℤ) → y ≡ z → IsItsNegative t (wrap t y) → IsItsNegative t (wrap t z)
its_negative t z y e p = subst (λ x. IsItsNegative t (wrap t x)) e p

pub least_is : (t : Elem) (z : ℤ) → IsLeast t z → z <ℤ pos 0 → IsItsNegative t (wrap t z)
unfolding wrap_to number_to
least_is Truth z l h = absurd (unsigned_least 1 z l.0 h)
least_is I8 z l h = its_negative I8 z (neg_ℤ (pos (2 ^ 7))) (signed_least 7 z l.0 l.1) (refl, refl, refl, refl)
least_is U8 z l h = absurd (unsigned_least 8 z l.0 h)
least_is I16 z l h = its_negative I16 z (neg_ℤ (pos (2 ^ 15))) (signed_least 15 z l.0 l.1) (refl, refl, refl, refl)
least_is U16 z l h = absurd (unsigned_least 16 z l.0 h)
least_is I32 z l h = its_negative I32 z (neg_ℤ (pos (2 ^ 31))) (signed_least 31 z l.0 l.1) (refl, refl, refl, refl)
least_is U32 z l h = absurd (unsigned_least 32 z l.0 h)
least_is I64 z l h = its_negative I64 z (neg_ℤ (pos (2 ^ 63))) (signed_least 63 z l.0 l.1) (refl, refl, refl, refl)
least_is U64 z l h = absurd (unsigned_least 64 z l.0 h)
