-- Constants, conversions and indices: where code uses another type than the meaning.
use Rattle.std.proofs.Common.{◌≡◌, ◌≢◌, ℕ, zero, suc, ◌<◌, ◌≤◌, ◌%◌, ◌^◌, true, false, refl, sym, ap, ◌∙◌, subst, arith, ℤ, pos, negsuc, mod-lt, pow_pos, mod-eq_of_lt, le-ltb, ◌-◌, ◌⊎◌, inl, inr}
use Rattle.std.specs.Prelude.{not, ◌||◌, int_lt, unsigned_abs, nat_lt}
use Rattle.std.proofs.lemmas.Int.{ints}
use Rattle.isp_base.specs.Access.{is_outside, element}
use Rattle.isp_base.specs.Ranges.{IsValue}
use Rattle.isp_base.specs.Values.{width, number, number_to, wrap, not_zero, convert_bits}
use Rattle.isp_base.specs.declared.types.Elem.{Elem}
use Rattle.isp_base.specs.declared.types.Elem.TheVariants.{Bool as Truth, I8, U8, I16, U16, I32, U32, I64, U64}
use Rattle.isp_base.proofs.Compares.{low_number}
use Rattle.isp_base.proofs.Laws.{value_is, back_is, bits_are}
use Rattle.isp_base.proofs.Elems.{number_above, number_below}
use Rattle.isp_base.proofs.Wraps.{wrap_to-lt, wrap_to-pos}
use Rattle.isp_meaning.specs.Payloads.{converted}
use Rattle.isp_lower_code.proofs.Splits.{split_at}

-- the low bits are read
pub low_bits : (t : Elem) (b : ℕ) → number t (b % 2 ^ width t) ≡ number t b
low_bits t b = low_number t b (b % 2 ^ width t) refl

pub wrap_bits : (t : Elem) (b : ℕ) → wrap t (number t b) ≡ b % 2 ^ width t
wrap_bits t b = ap (wrap t) (sym (low_bits t b)) ∙ bits_are t (b % 2 ^ width t) (mod-lt b (pow_pos (width t)))

not_zero_lt : (z : ℤ) → not_zero z < 2
unfolding not_zero
not_zero_lt (pos zero) = omega arith
not_zero_lt (pos (suc n)) = omega arith
not_zero_lt (negsuc n) = omega arith

convert_lt : (t : Elem) (z : ℤ) → convert_bits t z < 2 ^ width t
convert_lt Truth z = not_zero_lt z
convert_lt I8 z = wrap_to-lt 8 z
convert_lt U8 z = wrap_to-lt 8 z
convert_lt I16 z = wrap_to-lt 16 z
convert_lt U16 z = wrap_to-lt 16 z
convert_lt I32 z = wrap_to-lt 32 z
convert_lt U32 z = wrap_to-lt 32 z
convert_lt I64 z = wrap_to-lt 64 z
convert_lt U64 z = wrap_to-lt 64 z

-- a constant of the wanted type
pub constant_is : (f t : Elem) (b : ℕ) → wrap t (number t (converted f t b)) ≡ converted f t (b % 2 ^ width f)
constant_is f t b = bits_are t (converted f t b) (convert_lt t (number f b)) ∙ ap (convert_bits t) (sym (low_bits f b))

-- ---- an index as int64

pub number_is : (t : Elem) (b : ℕ) → IsValue t (number t b)
number_is t b = subst (IsValue t) (ap (number t) (wrap_bits t b) ∙ low_bits t b) (value_is t (number t b))

fits_whole : (t : Elem) (z : ℤ) → t ≢ U64 → IsValue t z → IsValue I64 z
fits_whole Truth z ne v = (omega (arith, ints, v.0), omega (arith, ints, v.1))
fits_whole I8 z ne v = (omega (arith, ints, v.0), omega (arith, ints, v.1))
fits_whole U8 z ne v = (omega (arith, ints, v.0), omega (arith, ints, v.1))
fits_whole I16 z ne v = (omega (arith, ints, v.0), omega (arith, ints, v.1))
fits_whole U16 z ne v = (omega (arith, ints, v.0), omega (arith, ints, v.1))
fits_whole I32 z ne v = (omega (arith, ints, v.0), omega (arith, ints, v.1))
fits_whole U32 z ne v = (omega (arith, ints, v.0), omega (arith, ints, v.1))
fits_whole I64 z ne v = v
fits_whole U64 z ne v = absurd (ne refl)

whole_number : (t : Elem) (b : ℕ) → t ≢ U64 → number I64 (converted t I64 b) ≡ number t b
whole_number t b ne = back_is I64 (number t b) (fits_whole t (number t b) ne (number_is t b))

-- the greatest type has values that are none of int64
abbrev Whichever : Elem → Type 0
Whichever t = (t ≡ U64) ⊎ (t ≢ U64)

whichever : (t : Elem) → Whichever t
whichever Truth = inr (λ e. absurd (cc))
whichever I8 = inr (λ e. absurd (cc))
whichever U8 = inr (λ e. absurd (cc))
whichever I16 = inr (λ e. absurd (cc))
whichever U16 = inr (λ e. absurd (cc))
whichever I32 = inr (λ e. absurd (cc))
whichever U32 = inr (λ e. absurd (cc))
whichever I64 = inr (λ e. absurd (cc))
whichever U64 = inl refl

module _ (b : ℕ) where
  large : ℕ
  large = b % 2 ^ 64

  large_lt : large < 2 ^ 64
  unfolding large
  large_lt = mod-lt b (pow_pos 64)

  large_number : number U64 b ≡ pos large
  unfolding large
  large_number = number_below 64 (2 ^ 64 - 1) (b % 2 ^ 64) (let l = large_lt in omega arith)

  small_number : large < 2 ^ 63 → number I64 (converted U64 I64 b) ≡ pos large
  small_number lt = ap (λ z. number I64 (wrap I64 z)) large_number ∙ back_is I64 (pos large) (omega (arith, ints), omega (arith, ints))

  great_number : 2 ^ 63 ≤ large → number I64 (converted U64 I64 b) ≡ negsuc (2 ^ 64 - 1 - large)
  great_number le =
      let l = large_lt in
      ap (λ z. number I64 (wrap I64 z)) large_number
      ∙ ap (number I64) (wrap_to-pos 64 large ∙ mod-eq_of_lt l)
      ∙ ap (number_to 64 (2 ^ 63 - 1)) (mod-eq_of_lt l)
      ∙ number_above 64 (2 ^ 63 - 1) large (omega arith)
      ∙ omega (arith, ints)

pub past_is : (x n : ℕ) → n ≤ x → (int_lt (pos x) (pos 0) || not (int_lt (pos x) (pos n))) ≡ true
past_is x n le = ap (λ d. d || not (nat_lt x n)) (le-ltb x 0 (omega arith)) ∙ ap not (le-ltb x n le)

-- b has a whole number as one of int64; or that is too great for this, and then no array has an element of it
abbrev pub IsFirst : ℤ → ℕ → Type 0
IsFirst z b = (number I64 b ≡ z) ⊎ ((m : ℕ) × (u : ℕ) × (z ≡ pos m) × (2 ^ 63 ≤ m) × (number I64 b ≡ negsuc u))

pub zero_first : number I64 0 ≡ pos 0
zero_first = number_below 64 (2 ^ 63 - 1) 0 (omega arith)

pub whole_first : (t : Elem) (b : ℕ) → IsFirst (number t b) (converted t I64 b)
whole_first t b = go (whichever t)
  where
    large_case : (d : (large b < 2 ^ 63) ⊎ (2 ^ 63 ≤ large b)) → IsFirst (number U64 b) (converted U64 I64 b)
    large_case (inl lt) = inl (small_number b lt ∙ sym (large_number b))
    large_case (inr le) = inr (large b, 2 ^ 64 - 1 - large b, large_number b, le, great_number b le)

    go : Whichever t → IsFirst (number t b) (converted t I64 b)
    go (inl e) = subst (λ u. IsFirst (number u b) (converted u I64 b)) (sym e) (large_case (split_at (large b) (2 ^ 63)))
    go (inr ne) = inl (whole_number t b ne)

-- an index is outside as one of int64 where it is outside, if there are not too many elements
pub whole_outside : (t : Elem) (n b : ℕ) → n ≤ 2 ^ 63 → is_outside I64 n (converted t I64 b) ≡ is_outside t n b
whole_outside t n b few = go (whichever t)
  where
    large_case : (d : (large b < 2 ^ 63) ⊎ (2 ^ 63 ≤ large b)) → is_outside I64 n (converted U64 I64 b) ≡ is_outside U64 n b
    large_case (inl lt) = ap (λ z. int_lt z (pos 0) || not (int_lt z (pos n))) (small_number b lt ∙ sym (large_number b))
    large_case (inr le) =
        ap (λ z. int_lt z (pos 0) || not (int_lt z (pos n))) (great_number b le)
        ∙ sym (ap (λ z. int_lt z (pos 0) || not (int_lt z (pos n))) (large_number b) ∙ past_is (large b) n (omega arith))

    go : Whichever t → is_outside I64 n (converted t I64 b) ≡ is_outside t n b
    go (inl e) = subst (λ u. is_outside I64 n (converted u I64 b) ≡ is_outside u n b) (sym e) (large_case (split_at (large b) (2 ^ 63)))
    go (inr ne) = ap (λ z. int_lt z (pos 0) || not (int_lt z (pos n))) (whole_number t b ne)

-- and means the same element where it is not
pub whole_element : (t : Elem) (n b : ℕ) → n ≤ 2 ^ 63 → is_outside t n b ≡ false → element I64 (converted t I64 b) ≡ element t b
whole_element t n b few inside = go (whichever t)
  where
    large_case : is_outside U64 n b ≡ false → (d : (large b < 2 ^ 63) ⊎ (2 ^ 63 ≤ large b)) → element I64 (converted U64 I64 b) ≡ element U64 b
    large_case h (inl lt) = ap unsigned_abs (small_number b lt ∙ sym (large_number b))
    large_case h (inr le) =
        let off : is_outside U64 n b ≡ true = ap (λ z. int_lt z (pos 0) || not (int_lt z (pos n))) (large_number b) ∙ past_is (large b) n (omega arith) in
        let no : true ≡ false = sym off ∙ h in
        absurd (cc)

    go : Whichever t → element I64 (converted t I64 b) ≡ element t b
    go (inl e) = subst (λ u. element I64 (converted u I64 b) ≡ element u b) (sym e) (large_case (subst (λ u. is_outside u n b ≡ false) e inside) (split_at (large b) (2 ^ 63)))
    go (inr ne) = ap unsigned_abs (whole_number t b ne)
