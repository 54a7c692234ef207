-- The operators that look at the sign, by magnitudes and by a turn of the order.
use Rattle.std.proofs.Common.{◌≡◌, refl, sym, ap, ap₂, ◌∙◌, ℕ, zero, suc, ◌+◌, ◌-◌, ◌*◌, ◌/◌, ◌%◌, ◌^◌, ◌<◌, ◌≤◌, Bool, true, false, not, cond, ℤ, pos, negsuc, neg_ℤ, ◌+ℤ◌}
use Rattle.std.proofs.Common.{◌-ℤ◌, nat_lt, arith, unsigned_abs, int_lt, int_div, int_rem, mod-eq_of_lt, ltb-true, ltb-false, div-le_self}
use Rattle.std.proofs.lemmas.Int.{ints, int_rem_euclid_is}
use Rattle.std.proofs.lemmas.Bool.Decides.{nat_tests}
use native.Mathlib.Nat.{add-mod_right, zero-div, zero-mod, mod-le}
use mathlib.Core.Bool.{beq}
use Rattle.std.specs.Int.{int_shr, int_min, int_max}
use Rattle.isp_base.specs.Values.{wrap_to, number_to, amount}
use Rattle.isp_base.specs.Words.{turned, magnitude}
use Rattle.isp_base.proofs.Wraps.{wrap_to-same, wrap_to-pos, read, wrap_number}

-- ---- the order

turned_up : (w g x : ℕ) → g < 2 ^ w → g < x → x < 2 ^ w → turned w g x ≡ x - 1 - g
turned_up w g x r h p =
    let e : x + (2 ^ w - 1 - g) ≡ (x - 1 - g) + 2 ^ w = omega arith in
    ap (λ n. n % 2 ^ w) e ∙ add-mod_right (x - 1 - g) (2 ^ w) ∙ mod-eq_of_lt (omega arith)

turned_low : (w g x : ℕ) → g < 2 ^ w → x ≤ g → turned w g x ≡ x + (2 ^ w - 1 - g)
turned_low w g x r h = mod-eq_of_lt (omega arith)

-- a test of two natural numbers that has the answer of another test
pub test_is : (t : Bool) (a b : ℕ) → (t ≡ true → a < b) → (t ≡ false → b ≤ a) → t ≡ nat_lt a b
test_is true a b f g = let h = f refl in grind (arith, nat_tests)
test_is false a b f g = let h = g refl in grind (arith, nat_tests)

pub lt_is : (w g x y : ℕ) → g < 2 ^ w → x < 2 ^ w → y < 2 ^ w → int_lt (number_to w g x) (number_to w g y) ≡ nat_lt (turned w g x) (turned w g y)
unfolding number_to
lt_is w g x y r p q = by (nat_lt g x) refl (nat_lt g y) refl
  where
    by : (s : Bool) → nat_lt g x ≡ s → (t : Bool) → nat_lt g y ≡ t
        → int_lt (cond s (pos x -ℤ pos (2 ^ w)) (pos x)) (cond t (pos y -ℤ pos (2 ^ w)) (pos y)) ≡ nat_lt (turned w g x) (turned w g y)
    by true d true e =
        let a = turned_up w g x r (ltb-true _ _ d) p in
        let b = turned_up w g y r (ltb-true _ _ e) q in
        test_is _ _ _ (λ h. omega (arith, ints, a, b, ltb-true _ _ d, ltb-true _ _ e)) (λ h. omega (arith, ints, a, b, ltb-true _ _ d, ltb-true _ _ e))
    by true d false e =
        let a = turned_up w g x r (ltb-true _ _ d) p in
        let b = turned_low w g y r (ltb-false _ _ e) in
        test_is _ _ _ (λ h. omega (arith, ints, a, b, ltb-true _ _ d, ltb-false _ _ e)) (λ h. omega (arith, ints, a, b, ltb-true _ _ d, ltb-false _ _ e))
    by false d true e =
        let a = turned_low w g x r (ltb-false _ _ d) in
        let b = turned_up w g y r (ltb-true _ _ e) q in
        test_is _ _ _ (λ h. omega (arith, ints, a, b, ltb-false _ _ d, ltb-true _ _ e)) (λ h. omega (arith, ints, a, b, ltb-false _ _ d, ltb-true _ _ e))
    by false d false e =
        let a = turned_low w g x r (ltb-false _ _ d) in
        let b = turned_low w g y r (ltb-false _ _ e) in
        test_is _ _ _ (λ h. omega (arith, ints, a, b, ltb-false _ _ d, ltb-false _ _ e)) (λ h. omega (arith, ints, a, b, ltb-false _ _ d, ltb-false _ _ e))

pick : (w g x y : ℕ) → x < 2 ^ w → y < 2 ^ w → (t : Bool) → wrap_to w (cond t (number_to w g x) (number_to w g y)) ≡ cond t x y
pick w g x y p q true = wrap_number w g x p
pick w g x y p q false = wrap_number w g y q

pub min_is : (w g x y : ℕ) → g < 2 ^ w → x < 2 ^ w → y < 2 ^ w → wrap_to w (int_min (number_to w g x) (number_to w g y)) ≡ cond (nat_lt (turned w g y) (turned w g x)) y x
min_is w g x y r p q = pick w g y x q p (int_lt (number_to w g y) (number_to w g x)) ∙ ap (λ t. cond t y x) (lt_is w g y x r q p)

pub max_is : (w g x y : ℕ) → g < 2 ^ w → x < 2 ^ w → y < 2 ^ w → wrap_to w (int_max (number_to w g x) (number_to w g y)) ≡ cond (nat_lt (turned w g y) (turned w g x)) x y
max_is w g x y r p q = pick w g x y p q (int_lt (number_to w g y) (number_to w g x)) ∙ ap (λ t. cond t x y) (lt_is w g y x r q p)

-- ---- magnitudes

abbrev pub signed : Bool → ℕ → ℤ
signed true m = neg_ℤ (pos m)
signed false m = pos m

abbrev pub differ : Bool → Bool → Bool
differ true true = false
differ true false = true
differ false true = true
differ false false = false

pub differ_is : (s t a : Bool) → beq s t ≡ a → differ s t ≡ not a
differ_is true true a e = ap not e
differ_is true false a e = ap not e
differ_is false true a e = ap not e
differ_is false false a e = ap not e

pub number_signed : (w g x : ℕ) → x < 2 ^ w → number_to w g x ≡ signed (nat_lt g x) (magnitude w g x)
unfolding number_to
number_signed w g x p = by (nat_lt g x)
  where
    by : (t : Bool) → cond t (pos x -ℤ pos (2 ^ w)) (pos x) ≡ signed t (cond t (2 ^ w - x) x)
    by true = omega (arith, ints)
    by false = refl

wrap-signed : (w : ℕ) (t : Bool) (q : ℕ) → q ≤ 2 ^ w → wrap_to w (signed t q) ≡ cond t ((2 ^ w - q) % 2 ^ w) (q % 2 ^ w)
wrap-signed w true q h = wrap_to-same w (neg_ℤ (pos q)) (pos (2 ^ w - q)) 1 0 (omega (arith, ints)) ∙ wrap_to-pos w (2 ^ w - q)
wrap-signed w false q h = wrap_to-pos w q

quot : (s t : Bool) (m n : ℕ) → 0 < n → int_div (signed s m) (signed t n) ≡ signed (differ s t) (m / n)
quot false false m n h = refl
quot false true m (suc b) h = refl
quot false true m zero h = absurd (omega arith)
quot true false (suc a) n h = refl
quot true false zero n h = ap pos (zero-div n) ∙ ap (λ k. neg_ℤ (pos k)) (sym (zero-div n))
quot true true (suc a) (suc b) h = refl
quot true true zero (suc b) h = ap (λ k. neg_ℤ (pos k)) (zero-div (suc b)) ∙ ap pos (sym (zero-div (suc b)))
quot true true m zero h = absurd (omega arith)

rest : (s t : Bool) (m n : ℕ) → 0 < n → int_rem (signed s m) (signed t n) ≡ signed s (m % n)
rest false false m n h = refl
rest false true m (suc b) h = refl
rest false true m zero h = absurd (omega arith)
rest true false (suc a) n h = refl
rest true false zero n h = ap pos (zero-mod n) ∙ ap (λ k. neg_ℤ (pos k)) (sym (zero-mod n))
rest true true (suc a) (suc b) h = refl
rest true true zero (suc b) h = ap pos (zero-mod (suc b)) ∙ ap (λ k. neg_ℤ (pos k)) (sym (zero-mod (suc b)))
rest true true m zero h = absurd (omega arith)

pub magnitude_le : (w g x : ℕ) → x < 2 ^ w → magnitude w g x ≤ 2 ^ w
magnitude_le w g x p = by (nat_lt g x)
  where
    by : (t : Bool) → cond t (2 ^ w - x) x ≤ 2 ^ w
    by true = omega arith
    by false = omega arith

pub magnitude_pos : (w g x : ℕ) → x < 2 ^ w → 0 < x → 0 < magnitude w g x
magnitude_pos w g x p h = by (nat_lt g x)
  where
    by : (t : Bool) → 0 < cond t (2 ^ w - x) x
    by true = omega arith
    by false = h

pub div_is : (w g x y : ℕ) → x < 2 ^ w → y < 2 ^ w → 0 < y
    → wrap_to w (int_div (number_to w g x) (number_to w g y))
    ≡ cond (differ (nat_lt g x) (nat_lt g y)) ((2 ^ w - magnitude w g x / magnitude w g y) % 2 ^ w) ((magnitude w g x / magnitude w g y) % 2 ^ w)
div_is w g x y p q h =
    let below : magnitude w g x / magnitude w g y ≤ 2 ^ w = omega (arith, div-le_self (magnitude w g x) (magnitude w g y), magnitude_le w g x p) in
    ap₂ (λ a b. wrap_to w (int_div a b)) (number_signed w g x p) (number_signed w g y q)
    ∙ ap (wrap_to w) (quot (nat_lt g x) (nat_lt g y) (magnitude w g x) (magnitude w g y) (magnitude_pos w g y q h))
    ∙ wrap-signed w (differ (nat_lt g x) (nat_lt g y)) _ below

pub rem_is : (w g x y : ℕ) → x < 2 ^ w → y < 2 ^ w → 0 < y
    → wrap_to w (int_rem (number_to w g x) (number_to w g y))
    ≡ cond (nat_lt g x) ((2 ^ w - magnitude w g x % magnitude w g y) % 2 ^ w) ((magnitude w g x % magnitude w g y) % 2 ^ w)
rem_is w g x y p q h =
    let below : magnitude w g x % magnitude w g y ≤ 2 ^ w = omega (arith, mod-le (magnitude w g x) (magnitude w g y), magnitude_le w g x p) in
    ap₂ (λ a b. wrap_to w (int_rem a b)) (number_signed w g x p) (number_signed w g y q)
    ∙ ap (wrap_to w) (rest (nat_lt g x) (nat_lt g y) (magnitude w g x) (magnitude w g y) (magnitude_pos w g y q h))
    ∙ wrap-signed w (nat_lt g x) _ below

-- ---- shifts

pub amount_is : (w g y c : ℕ) → 0 < w → 2 ^ w ≡ c * w → amount w (number_to w g y) ≡ y % w
unfolding amount
amount_is w g y c h e =
    let a = read w g y in
    let f : number_to w g y +ℤ pos ((a.0 * c) * w) ≡ pos y = ap (λ n. number_to w g y +ℤ pos n) (omega (arith, ap (λ n. a.0 * n) e)) ∙ a.1 in
    ap unsigned_abs (int_rem_euclid_is (number_to w g y) (pos w) w (a.0 * c) y h refl f)

pub shr_is : (w g x k : ℕ) → x < 2 ^ w → wrap_to w (int_shr (number_to w g x) k) ≡ cond (nat_lt g x) (2 ^ w - 1 - (2 ^ w - 1 - x) / 2 ^ k) (x / 2 ^ k)
unfolding number_to
shr_is w g x k p = by (nat_lt g x)
  where
    by : (t : Bool) → wrap_to w (int_shr (cond t (pos x -ℤ pos (2 ^ w)) (pos x)) k) ≡ cond t (2 ^ w - 1 - (2 ^ w - 1 - x) / 2 ^ k) (x / 2 ^ k)
    by false = wrap_to-pos w (x / 2 ^ k) ∙ mod-eq_of_lt (omega (arith, div-le_self x (2 ^ k)))
    by true =
        let n = (2 ^ w - 1 - x) / 2 ^ k in
        let small = div-le_self (2 ^ w - 1 - x) (2 ^ k) in
        let e : pos x -ℤ pos (2 ^ w) ≡ negsuc (2 ^ w - 1 - x) = omega (arith, ints) in
        ap (λ z. wrap_to w (int_shr z k)) e
        ∙ wrap_to-same w (negsuc n) (pos (2 ^ w - 1 - n)) 1 0 (omega (arith, ints))
        ∙ wrap_to-pos w (2 ^ w - 1 - n) ∙ mod-eq_of_lt (omega arith)
