-- Indices: of arrays with not too many elements.
use Rattle.std.proofs.Common.{◌≡◌, ℕ, suc, ◌+◌, ◌-◌, ◌*◌, ◌%◌, ◌^◌, ◌<◌, ◌≤◌, ◌⊎◌, inl, inr, not, ◌||◌, sym, ap, ap₂, ◌∙◌, subst, arith, mod-eq_of_lt}
use Rattle.std.specs.Prelude.{nat_lt, pos, negsuc, ◌+ℤ◌, int_lt, unsigned_abs}
use Rattle.std.proofs.lemmas.Bool.{cases_lt, le-ltb}
use Rattle.std.proofs.lemmas.Int.{ints}
use Rattle.std.proofs.lemmas.Nat.{mul-le}
use Rattle.std.proofs.Math.Nat.{suc-mul}
use Rattle.isp_base.specs.Access.{is_outside, is_beyond, element}
use Rattle.isp_base.specs.Values.{number, number_to}
use Rattle.isp_base.specs.declared.types.Elem.TheVariants.{I64}
use Rattle.isp_base.proofs.Elems.{number_above, number_below}

pub number_low : (x : ℕ) → x < 2 ^ 63 → number I64 x ≡ pos x
number_low x h = ap (number_to 64 (2 ^ 63 - 1)) (mod-eq_of_lt (let lt : x < 2 ^ 64 = omega arith in lt)) ∙ number_below 64 (2 ^ 63 - 1) x (omega arith)

pub number_high : (x : ℕ) → 2 ^ 63 ≤ x → x < 2 ^ 64 → number I64 x ≡ negsuc (2 ^ 64 - 1 - x)
number_high x le h = ap (number_to 64 (2 ^ 63 - 1)) (mod-eq_of_lt h) ∙ number_above 64 (2 ^ 63 - 1) x (omega arith) ∙ omega (arith, ints)

pub outside_is : (n x : ℕ) → n ≤ 2 ^ 63 → x < 2 ^ 64 → is_outside I64 n x ≡ not (nat_lt x n)
outside_is n x few fit = by (cases_lt x (2 ^ 63))
  where
    by : (x < 2 ^ 63) ⊎ (2 ^ 63 ≤ x) → is_outside I64 n x ≡ not (nat_lt x n)
    by (inl lt) = ap (λ z. int_lt z (pos 0) || not (int_lt z (pos n))) (number_low x lt) ∙ ap (λ d. d || not (nat_lt x n)) (le-ltb x 0 (omega arith))
    by (inr le) = ap (λ z. int_lt z (pos 0) || not (int_lt z (pos n))) (number_high x le fit) ∙ sym (ap not (le-ltb x n (omega arith)))

pub element_is : (x : ℕ) → x < 2 ^ 63 → element I64 x ≡ x
element_is x h = ap unsigned_abs (number_low x h)

-- ---- an index and a small number

-- a lane's number after an index, as a whole number and in 64 bits
index_is_pos : (x p : ℕ) → x < 2 ^ 63 → p < 32 → number I64 x +ℤ pos p ≡ pos ((x + p) % 2 ^ 64)
index_is_pos x p h l = ap (λ z. z +ℤ pos p) (number_low x h) ∙ (let e : pos x +ℤ pos p ≡ pos (x + p) = omega (arith, ints) in e) ∙ ap pos (sym (mod-eq_of_lt (let lt : x + p < 2 ^ 64 = omega arith in lt)))

index_is_neg : (x p : ℕ) → 2 ^ 63 ≤ x → x + p < 2 ^ 64 → number I64 x +ℤ pos p ≡ negsuc (2 ^ 64 - 1 - (x + p))
index_is_neg x p h l = ap (λ z. z +ℤ pos p) (number_high x h (omega arith)) ∙ (let e : negsuc (2 ^ 64 - 1 - x) +ℤ pos p ≡ negsuc (2 ^ 64 - 1 - (x + p)) = omega (arith, ints) in e)

index_is_back : (x p : ℕ) → 2 ^ 63 ≤ x → x < 2 ^ 64 → p < 32 → 2 ^ 64 ≤ x + p → number I64 x +ℤ pos p ≡ pos ((x + p) % 2 ^ 64)
index_is_back x p h f l g =
    ap (λ z. z +ℤ pos p) (number_high x h f) ∙ (let e : negsuc (2 ^ 64 - 1 - x) +ℤ pos p ≡ pos (x + p - 2 ^ 64) = omega (arith, ints) in e)
    ∙ ap pos (let e : x + p - 2 ^ 64 ≡ (x + p) % 2 ^ 64 = omega arith in e)

-- it is a natural number, or negative and then a great one in 64 bits
which : (x p : ℕ) → x < 2 ^ 64 → p < 32 → (number I64 x +ℤ pos p ≡ pos ((x + p) % 2 ^ 64)) ⊎ ((u : ℕ) × (number I64 x +ℤ pos p ≡ negsuc u) × (2 ^ 63 ≤ (x + p) % 2 ^ 64))
which x p f l = by (cases_lt x (2 ^ 63)) (cases_lt (x + p) (2 ^ 64))
  where
    by : (x < 2 ^ 63) ⊎ (2 ^ 63 ≤ x) → (x + p < 2 ^ 64) ⊎ (2 ^ 64 ≤ x + p) → (number I64 x +ℤ pos p ≡ pos ((x + p) % 2 ^ 64)) ⊎ ((u : ℕ) × (number I64 x +ℤ pos p ≡ negsuc u) × (2 ^ 63 ≤ (x + p) % 2 ^ 64))
    by (inl lt) any = inl (index_is_pos x p lt l)
    by (inr le) (inl lt) = inr (2 ^ 64 - 1 - (x + p), index_is_neg x p le lt, omega (arith, mod-eq_of_lt lt))
    by (inr le) (inr back) = inl (index_is_back x p le f l back)

pub beyond_is : (n x p : ℕ) → n ≤ 2 ^ 32 → x < 2 ^ 64 → p < 32 → is_beyond n (number I64 x +ℤ pos p) ≡ not (nat_lt ((x + p) % 2 ^ 64) n)
beyond_is n x p few f l = by (which x p f l)
  where
    by : (number I64 x +ℤ pos p ≡ pos ((x + p) % 2 ^ 64)) ⊎ ((u : ℕ) × (number I64 x +ℤ pos p ≡ negsuc u) × (2 ^ 63 ≤ (x + p) % 2 ^ 64)) → is_beyond n (number I64 x +ℤ pos p) ≡ not (nat_lt ((x + p) % 2 ^ 64) n)
    by (inl e) = ap (is_beyond n) e ∙ ap (λ d. d || not (nat_lt ((x + p) % 2 ^ 64) n)) (le-ltb ((x + p) % 2 ^ 64) 0 (omega arith))
    by (inr e) = ap (is_beyond n) e.1 ∙ sym (ap not (le-ltb ((x + p) % 2 ^ 64) n (let g = e.2 in omega arith)))

pub first_is : (n x p : ℕ) → n ≤ 2 ^ 32 → x < 2 ^ 64 → p < 32 → (x + p) % 2 ^ 64 < n → unsigned_abs (number I64 x +ℤ pos p) ≡ (x + p) % 2 ^ 64
first_is n x p few f l lt = by (which x p f l)
  where
    by : (number I64 x +ℤ pos p ≡ pos ((x + p) % 2 ^ 64)) ⊎ ((u : ℕ) × (number I64 x +ℤ pos p ≡ negsuc u) × (2 ^ 63 ≤ (x + p) % 2 ^ 64)) → unsigned_abs (number I64 x +ℤ pos p) ≡ (x + p) % 2 ^ 64
    by (inl e) = ap unsigned_abs e
    by (inr e) = absurd (let g = e.2 in omega arith)

-- ---- addresses

pub in_row : (x n m : ℕ) → x < n → x * m + m ≤ n * m
in_row x n m h = subst (λ z. z ≤ n * m) (suc-mul x m) (mul-le (suc x) m n m h (omega arith))

pub plain_address : (b x m : ℕ) → x < 2 ^ 32 → m < 2 ^ 32 → b + x * m < 2 ^ 32 → (b + (x % 2 ^ 32 * (m % 2 ^ 32)) % 2 ^ 32) % 2 ^ 32 ≡ b + x * m
plain_address b x m p q r =
    ap (λ z. (b + z % 2 ^ 32) % 2 ^ 32) (ap₂ (λ u v. u * v) (mod-eq_of_lt p) (mod-eq_of_lt q))
    ∙ ap (λ z. (b + z) % 2 ^ 32) (mod-eq_of_lt (let lt : x * m < 2 ^ 32 = omega arith in lt)) ∙ mod-eq_of_lt r
