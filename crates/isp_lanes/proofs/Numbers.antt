-- The lanes' numbers, and how many numbers lie between two int64.
use Rattle.std.proofs.Common.{◌≡◌, refl, sym, ap, ap₂, ◌∙◌, ℕ, zero, suc, ◌+◌, ◌-◌, ◌%◌, ◌^◌, ◌<◌, ◌≤◌, Bool, true, false, nat_lt, arith, ◌∷◌, take, pos, ℤ, ◌+ℤ◌, int_lt, mod-eq_of_lt, ltb-true, ltb-false}
use Rattle.std.proofs.lemmas.Int.{ints}
use native.Mathlib.Nat.{add-mod_right}
use Rattle.std.specs.List.{range_with_len}
use Rattle.isp_base.specs.declared.types.Elem.TheVariants.{I64}
use Rattle.isp_base.specs.Values.{number, number_to}
use Rattle.isp_base.proofs.Elems.{number_above, number_below}
use Rattle.isp_base.proofs.Signs.{test_is}

pub take_numbers : (a n k : ℕ) → k ≤ n → take k (range_with_len a n) ≡ range_with_len a k
take_numbers a n zero h = refl
take_numbers a zero (suc k) h = absurd (omega arith)
take_numbers a (suc n) (suc k) h = ap (λ t. a ∷ t) (take_numbers (a + 1) n k (omega arith))

-- y - x modulo m, of two numbers below m
up : (m x y : ℕ) → x < m → y < m → x ≤ y → (y + (m - x)) % m ≡ y - x
up m x y p q h =
    let e : y + (m - x) ≡ (y - x) + m = omega arith in
    ap (λ n. n % m) e ∙ add-mod_right (y - x) m ∙ mod-eq_of_lt (omega arith)

down : (m x y : ℕ) → x < m → y < m → y < x → (y + (m - x)) % m ≡ y + (m - x)
down m x y p q h = mod-eq_of_lt (omega arith)

-- the numbers from x on that lie below y, where x does
some_between : (w g x y p : ℕ) → x < 2 ^ w → y < 2 ^ w → int_lt (number_to w g x) (number_to w g y) ≡ true
    → nat_lt p ((y + (2 ^ w - x)) % 2 ^ w) ≡ int_lt (number_to w g x +ℤ pos p) (number_to w g y)
some_between w g x y p i j e = by (nat_lt g x) refl (nat_lt g y) refl
  where
    by : (s : Bool) → nat_lt g x ≡ s → (t : Bool) → nat_lt g y ≡ t → nat_lt p ((y + (2 ^ w - x)) % 2 ^ w) ≡ int_lt (number_to w g x +ℤ pos p) (number_to w g y)
    by true c true d =
        let a = number_above w g x (ltb-true _ _ c) in
        let b = number_above w g y (ltb-true _ _ d) in
        let l : x ≤ y = omega (arith, ints, a, b, e) in
        sym (test_is _ _ _ (λ h. omega (arith, ints, a, b, h, up (2 ^ w) x y i j l)) (λ h. omega (arith, ints, a, b, h, up (2 ^ w) x y i j l)))
    by true c false d =
        let a = number_above w g x (ltb-true _ _ c) in
        let b = number_below w g y (ltb-false _ _ d) in
        let l : y < x = omega (arith, ltb-true _ _ c, ltb-false _ _ d) in
        sym (test_is _ _ _ (λ h. omega (arith, ints, a, b, h, down (2 ^ w) x y i j l)) (λ h. omega (arith, ints, a, b, h, down (2 ^ w) x y i j l)))
    by false c true d =
        let a = number_below w g x (ltb-false _ _ c) in
        let b = number_above w g y (ltb-true _ _ d) in
        absurd (omega (arith, ints, a, b, e))
    by false c false d =
        let a = number_below w g x (ltb-false _ _ c) in
        let b = number_below w g y (ltb-false _ _ d) in
        let l : x ≤ y = omega (arith, ints, a, b, e) in
        sym (test_is _ _ _ (λ h. omega (arith, ints, a, b, h, up (2 ^ w) x y i j l)) (λ h. omega (arith, ints, a, b, h, up (2 ^ w) x y i j l)))

pub none_above : (a b : ℤ) (p : ℕ) → int_lt a b ≡ false → nat_lt p 0 ≡ int_lt (a +ℤ pos p) b
none_above a b p e = sym (test_is _ p 0 (λ h. absurd (omega (arith, ints, h, e))) (λ h. omega arith))

-- the same of two int64
pub int64_between : (x y p : ℕ) → x < 2 ^ 64 → y < 2 ^ 64 → int_lt (number I64 x) (number I64 y) ≡ true
    → nat_lt p ((y + (2 ^ 64 - x)) % 2 ^ 64) ≡ int_lt (number I64 x +ℤ pos p) (number I64 y)
int64_between x y p i j e =
    let words = ap₂ (λ a b. int_lt (number_to 64 (2 ^ 63 - 1) a) (number_to 64 (2 ^ 63 - 1) b)) (mod-eq_of_lt i) (mod-eq_of_lt j) in
    some_between 64 (2 ^ 63 - 1) x y p i j (sym words ∙ e)
    ∙ ap₂ (λ a b. int_lt (number_to 64 (2 ^ 63 - 1) a +ℤ pos p) (number_to 64 (2 ^ 63 - 1) b)) (sym (mod-eq_of_lt i)) (sym (mod-eq_of_lt j))
