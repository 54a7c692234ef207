-- The whole numbers that bits stand for.
use Rattle.std.proofs.Common.{◌≡◌, subst, sym, ap, ◌∙◌, ℕ, ◌%◌, ◌^◌, arith, mod-lt, pow_pos, ℤ, pos, ◌-ℤ◌, ◌≤ℤ◌, ◌<ℤ◌}
use Rattle.std.proofs.lemmas.Int.{ints}
use native.Mathlib.Nat.{mod-mod}
use Rattle.isp_base.specs.declared.types.Elem.{Elem}
use Rattle.isp_base.specs.declared.types.Elem.TheVariants.{Bool as Truth, I8, U8, I16, U16, I32, U32, I64, U64}
use Rattle.isp_base.specs.Ranges.{IsValue}
use Rattle.isp_base.specs.Values.{width, greatest, number, number_to, wrap}
use Rattle.isp_base.proofs.Laws.{value_is, bits_are}

low_number : (t : Elem) (b : ℕ) → number t (b % 2 ^ width t) ≡ number t b
low_number t b = ap (number_to (width t) (greatest t)) (mod-mod b (2 ^ width t))

low_wrap : (t : Elem) (b : ℕ) → wrap t (number t b) ≡ b % 2 ^ width t
low_wrap t b = ap (wrap t) (sym (low_number t b)) ∙ bits_are t (b % 2 ^ width t) (mod-lt b (pow_pos (width t)))

pub number_is_value : (t : Elem) (b : ℕ) → IsValue t (number t b)
number_is_value t b = subst (IsValue t) (ap (number t) (low_wrap t b) ∙ low_number t b) (value_is t (number t b))

-- of every type they are within 64 bits
pub number_low : (t : Elem) (b : ℕ) → (pos 0 -ℤ pos (2 ^ 63)) ≤ℤ number t b
number_low t b = low t (number t b) (number_is_value t b)
  where
    low : (t : Elem) (z : ℤ) → IsValue t z → (pos 0 -ℤ pos (2 ^ 63)) ≤ℤ z
    low Truth z v = omega (arith, ints, v.0)
    low I8 z v = omega (arith, ints, v.0)
    low U8 z v = omega (arith, ints, v.0)
    low I16 z v = omega (arith, ints, v.0)
    low U16 z v = omega (arith, ints, v.0)
    low I32 z v = omega (arith, ints, v.0)
    low U32 z v = omega (arith, ints, v.0)
    low I64 z v = omega (arith, ints, v.0)
    low U64 z v = omega (arith, ints, v.0)

pub number_high : (t : Elem) (b : ℕ) → number t b <ℤ pos (2 ^ 64)
number_high t b = high t (number t b) (number_is_value t b)
  where
    high : (t : Elem) (z : ℤ) → IsValue t z → z <ℤ pos (2 ^ 64)
    high Truth z v = omega (arith, ints, v.1)
    high I8 z v = omega (arith, ints, v.1)
    high U8 z v = omega (arith, ints, v.1)
    high I16 z v = omega (arith, ints, v.1)
    high U16 z v = omega (arith, ints, v.1)
    high I32 z v = omega (arith, ints, v.1)
    high U32 z v = omega (arith, ints, v.1)
    high I64 z v = omega (arith, ints, v.1)
    high U64 z v = omega (arith, ints, v.1)
