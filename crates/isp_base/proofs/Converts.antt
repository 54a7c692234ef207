-- Conversions, on the low bits.
use Rattle.std.proofs.Common.{◌≡◌, refl, sym, ap, ◌∙◌, ℕ, ◌+◌, ◌-◌, ◌%◌, ◌^◌, ◌==◌, not, cond, ℤ, pos, negsuc, zero, suc, nat_lt, arith, mod-eq_of_lt}
use Rattle.std.proofs.lemmas.Bool.Decides.{Decides-int_eq}
use Rattle.std.proofs.lemmas.Int.{ints}
use Rattle.std.specs.Ordering.{int_eq}
use mir.Val.{bool_byte}
use Rattle.isp_base.specs.declared.types.Elem.{Elem}
use Rattle.isp_base.specs.declared.types.Elem.TheVariants.{Bool as Truth, I8, U8, I16, U16, I32, U32, I64, U64}
use Rattle.isp_base.specs.Values.{width, greatest, number, number_to, wrap, not_zero, convert_bits}
use Rattle.isp_base.proofs.Elems.{width_le}
use Rattle.isp_base.proofs.Wraps.{widen_is}
use Rattle.isp_base.proofs.Words.{multiple, not_true}
use Rattle.isp_base.proofs.Unaries.{low_fits, zero_is, bit_of}
use Rattle.isp_base.proofs.Compares.{low_number}

abbrev differs : ℤ → ℕ
differs z = cond (not (int_eq z (pos 0))) 1 0

other : (z : ℤ) → (z ≡ pos 0 → ⊥) → differs z ≡ 1
other z n = ap (λ b. cond (not b) 1 0) (not_true (λ h. n ((Decides-int_eq z (pos 0)).0 h)))

not_zero_is : (z : ℤ) → not_zero z ≡ differs z
unfolding not_zero
not_zero_is (pos zero) = refl
not_zero_is (pos (suc n)) = sym (other (pos (suc n)) (λ e. omega (arith, ints, e)))
not_zero_is (negsuc n) = sym (other (negsuc n) (λ e. omega (arith, ints, e)))

-- to bool
pub truth_is : (f : Elem) (b x : ℕ) → x ≡ b % 2 ^ width f → bool_byte (not (x == 0)) ≡ not_zero (number f b)
truth_is f b x e =
    bit_of (not (x == 0)) ∙ sym (ap not_zero (sym (low_number f b x e)) ∙ not_zero_is (number f x) ∙ ap (λ z. cond (not (int_eq z (pos 0))) 1 0) (ap (number_to (width f) (greatest f)) (mod-eq_of_lt (low_fits f b x e)))
    ∙ ap (λ s. cond (not s) 1 0) (zero_is f x (low_fits f b x e)))

-- to whole numbers
pub whole_is : (f t : Elem) (b x : ℕ) → x ≡ b % 2 ^ width f → cond (nat_lt (greatest f) x) (x + (2 ^ 64 - 2 ^ width f)) x % 2 ^ width t ≡ wrap t (number f b)
whole_is f t b x e =
    let d = multiple t in
    sym (ap (wrap t) (sym (low_number f b x e) ∙ ap (number_to (width f) (greatest f)) (mod-eq_of_lt (low_fits f b x e))) ∙ widen_is (width t) (width f) (greatest f) x (d.0 + 1) (omega (arith, d.1)) (width_le f))

pub no_truth : (t : Elem) (z : ℤ) → (t ≡ Truth → ⊥) → wrap t z ≡ convert_bits t z
no_truth Truth z n = absurd (n refl)
no_truth I8 z n = refl
no_truth U8 z n = refl
no_truth I16 z n = refl
no_truth U16 z n = refl
no_truth I32 z n = refl
no_truth U32 z n = refl
no_truth I64 z n = refl
no_truth U64 z n = refl
