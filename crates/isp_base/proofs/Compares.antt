-- Comparisons, on the low bits.
use Rattle.std.proofs.Common.{◌≡◌, sym, ap, ap₂, ◌∙◌, ℕ, ◌%◌, ◌^◌, ◌==◌, Bool, nat_lt, int_lt}
use Rattle.std.specs.Ordering.{int_eq}
use native.Mathlib.Nat.{mod-mod}
use Rattle.isp_base.specs.declared.types.Elem.{Elem}
use Rattle.isp_base.specs.declared.operators.Compare.{Compare}
use Rattle.isp_base.specs.Values.{width, greatest, number, number_to, compare_to}
use Rattle.isp_base.specs.Words.{turned}
use Rattle.isp_base.proofs.Unaries.{low_fits}
use Rattle.isp_base.proofs.Words.{same_number, word_less}

pub low_number : (t : Elem) (b x : ℕ) → x ≡ b % 2 ^ width t → number t x ≡ number t b
low_number t b x e = ap (number t) e ∙ ap (number_to (width t) (greatest t)) (mod-mod b (2 ^ width t))

module _ (t : Elem) (a b x y : ℕ) (p : x ≡ a % 2 ^ width t) (q : y ≡ b % 2 ^ width t) where
  pub equal_low : (x == y) ≡ int_eq (number t a) (number t b)
  equal_low = sym (same_number t x y (low_fits t a x p) (low_fits t b y q)) ∙ ap₂ int_eq (low_number t a x p) (low_number t b y q)

  pub less_low : nat_lt (turned (width t) (greatest t) x) (turned (width t) (greatest t) y) ≡ int_lt (number t a) (number t b)
  less_low = word_less t x y (low_fits t a x p) (low_fits t b y q) ∙ ap₂ int_lt (low_number t a x p) (low_number t b y q)

-- the comparison that is made
pub compare_at : (c d : Compare) → c ≡ d → (t : Elem) (a b : ℕ) (r : Bool) → r ≡ compare_to d (number t a) (number t b) → r ≡ compare_to c (number t a) (number t b)
compare_at c d e t a b r h = h ∙ ap (λ o. compare_to o (number t a) (number t b)) (sym e)
