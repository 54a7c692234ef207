-- The lanes whose number, added to the first, is below the end.
use Rattle.std.proofs.Common.{◌≡◌, ℕ, ◌+◌, ◌-◌, ◌%◌, ◌^◌, ◌<◌, ◌≤◌, ◌⊎◌, inl, inr, Bool, sym, ap, ap₂, ◌∙◌, subst, arith, mod-eq_of_lt}
use Rattle.std.proofs.lemmas.Int.{ints}
use Rattle.std.specs.Prelude.{nat_lt, if◌then◌else◌, ℤ, pos, negsuc, ◌+ℤ◌, int_lt}
use Rattle.std.proofs.lemmas.Bool.{cases_lt, lt-ltb, le-ltb}
use Rattle.isp_base.specs.Values.{number}
use Rattle.isp_base.specs.declared.types.Elem.TheVariants.{I64}
use Rattle.isp_wasm_meaning.specs.Syntax.{LtS}
use Rattle.isp_wasm_meaning.specs.Meaning.{tested}
use Rattle.isp_wasm.proofs.Indices.{number_low, number_high}
use Rattle.isp_wasm.proofs.WordLaws.{same_test}

abbrev pub between : Bool → ℕ → ℕ
between b n = if b then n else 0

module _ (x y p : ℕ) (fx : x < 2 ^ 64) (fy : y < 2 ^ 64) (fp : p < 32) where
  abbrev pub difference : ℕ
  difference = (y + (2 ^ 64 - x)) % 2 ^ 64

  abbrev pub Says : ℤ → ℤ → Type 0
  Says a b = int_lt (a +ℤ pos p) b ≡ nat_lt p (between (int_lt a b) difference)

  up : x ≤ y → difference ≡ y - x
  up le = omega arith

  over : y < x → difference ≡ y + (2 ^ 64 - x)
  over lt = mod-eq_of_lt (omega arith)

  low_low : x < 2 ^ 63 → y < 2 ^ 63 → Says (pos x) (pos y)
  low_low h g = ap (λ z. int_lt z (pos y)) (let e : pos x +ℤ pos p ≡ pos (x + p) = omega (arith, ints) in e) ∙ by (cases_lt x y)
    where
      by : (x < y) ⊎ (y ≤ x) → nat_lt (x + p) y ≡ nat_lt p (between (nat_lt x y) difference)
      by (inl lt) = same_test (x + p) y p (y - x) (λ l. omega arith) (λ l. omega arith) ∙ sym (ap (λ b. nat_lt p (between b difference)) (lt-ltb x y lt) ∙ ap (nat_lt p) (up (omega arith)))
      by (inr le) = le-ltb (x + p) y (omega arith) ∙ sym (ap (λ b. nat_lt p (between b difference)) (le-ltb x y le) ∙ le-ltb p 0 (omega arith))

  high_low : 2 ^ 63 ≤ x → y < 2 ^ 63 → Says (negsuc (2 ^ 64 - 1 - x)) (pos y)
  high_low h g = by (cases_lt (x + p) (2 ^ 64)) ∙ ap (nat_lt p) (sym (over (omega arith)))
    where
      by : (x + p < 2 ^ 64) ⊎ (2 ^ 64 ≤ x + p) → int_lt (negsuc (2 ^ 64 - 1 - x) +ℤ pos p) (pos y) ≡ nat_lt p (y + (2 ^ 64 - x))
      by (inl lt) =
          ap (λ z. int_lt z (pos y)) (let e : negsuc (2 ^ 64 - 1 - x) +ℤ pos p ≡ negsuc (2 ^ 64 - 1 - (x + p)) = omega (arith, ints) in e) ∙ sym (lt-ltb p (y + (2 ^ 64 - x)) (omega arith))
      by (inr le) =
          ap (λ z. int_lt z (pos y)) (let e : negsuc (2 ^ 64 - 1 - x) +ℤ pos p ≡ pos (x + p - 2 ^ 64) = omega (arith, ints) in e)
          ∙ same_test (x + p - 2 ^ 64) y p (y + (2 ^ 64 - x)) (λ l. omega arith) (λ l. omega arith)

  low_high : x < 2 ^ 63 → 2 ^ 63 ≤ y → Says (pos x) (negsuc (2 ^ 64 - 1 - y))
  low_high h g = ap (λ z. int_lt z (negsuc (2 ^ 64 - 1 - y))) (let e : pos x +ℤ pos p ≡ pos (x + p) = omega (arith, ints) in e) ∙ sym (le-ltb p 0 (omega arith))

  high_high : 2 ^ 63 ≤ x → 2 ^ 63 ≤ y → Says (negsuc (2 ^ 64 - 1 - x)) (negsuc (2 ^ 64 - 1 - y))
  high_high h g = by (cases_lt (x + p) (2 ^ 64)) (cases_lt x y)
    where
      by : (x + p < 2 ^ 64) ⊎ (2 ^ 64 ≤ x + p) → (x < y) ⊎ (y ≤ x) → int_lt (negsuc (2 ^ 64 - 1 - x) +ℤ pos p) (negsuc (2 ^ 64 - 1 - y)) ≡ nat_lt p (between (nat_lt (2 ^ 64 - 1 - y) (2 ^ 64 - 1 - x)) difference)
      by (inl lt) (inl less) =
          ap (λ z. int_lt z (negsuc (2 ^ 64 - 1 - y))) (let e : negsuc (2 ^ 64 - 1 - x) +ℤ pos p ≡ negsuc (2 ^ 64 - 1 - (x + p)) = omega (arith, ints) in e)
          ∙ same_test (2 ^ 64 - 1 - y) (2 ^ 64 - 1 - (x + p)) p (y - x) (λ l. omega arith) (λ l. omega arith)
          ∙ sym (ap (λ b. nat_lt p (between b difference)) (lt-ltb (2 ^ 64 - 1 - y) (2 ^ 64 - 1 - x) (omega arith)) ∙ ap (nat_lt p) (up (omega arith)))
      by (inl lt) (inr le) =
          ap (λ z. int_lt z (negsuc (2 ^ 64 - 1 - y))) (let e : negsuc (2 ^ 64 - 1 - x) +ℤ pos p ≡ negsuc (2 ^ 64 - 1 - (x + p)) = omega (arith, ints) in e)
          ∙ le-ltb (2 ^ 64 - 1 - y) (2 ^ 64 - 1 - (x + p)) (omega arith)
          ∙ sym (ap (λ b. nat_lt p (between b difference)) (le-ltb (2 ^ 64 - 1 - y) (2 ^ 64 - 1 - x) (omega arith)) ∙ le-ltb p 0 (omega arith))
      by (inr ov) (inl less) =
          ap (λ z. int_lt z (negsuc (2 ^ 64 - 1 - y))) (let e : negsuc (2 ^ 64 - 1 - x) +ℤ pos p ≡ pos (x + p - 2 ^ 64) = omega (arith, ints) in e)
          ∙ sym (ap (λ b. nat_lt p (between b difference)) (lt-ltb (2 ^ 64 - 1 - y) (2 ^ 64 - 1 - x) (omega arith)) ∙ ap (nat_lt p) (up (omega arith)) ∙ le-ltb p (y - x) (omega arith))
      by (inr ov) (inr le) =
          ap (λ z. int_lt z (negsuc (2 ^ 64 - 1 - y))) (let e : negsuc (2 ^ 64 - 1 - x) +ℤ pos p ≡ pos (x + p - 2 ^ 64) = omega (arith, ints) in e)
          ∙ sym (ap (λ b. nat_lt p (between b difference)) (le-ltb (2 ^ 64 - 1 - y) (2 ^ 64 - 1 - x) (omega arith)) ∙ le-ltb p 0 (omega arith))

  pub range_is : Says (number I64 x) (number I64 y)
  range_is = by (cases_lt x (2 ^ 63)) (cases_lt y (2 ^ 63))
    where
      by : (x < 2 ^ 63) ⊎ (2 ^ 63 ≤ x) → (y < 2 ^ 63) ⊎ (2 ^ 63 ≤ y) → Says (number I64 x) (number I64 y)
      by (inl a) (inl b) = subst (λ u. Says u (number I64 y)) (sym (number_low x a)) (subst (Says (pos x)) (sym (number_low y b)) (low_low a b))
      by (inl a) (inr b) = subst (λ u. Says u (number I64 y)) (sym (number_low x a)) (subst (Says (pos x)) (sym (number_high y b fy)) (low_high a b))
      by (inr a) (inl b) = subst (λ u. Says u (number I64 y)) (sym (number_high x a fx)) (subst (Says (negsuc (2 ^ 64 - 1 - x))) (sym (number_low y b)) (high_low a b))
      by (inr a) (inr b) = subst (λ u. Says u (number I64 y)) (sym (number_high x a fx)) (subst (Says (negsuc (2 ^ 64 - 1 - x))) (sym (number_high y b fy)) (high_high a b))

-- at most g, and bytes that are small
pub at_most : (p n g : ℕ) → p < g → nat_lt p (if nat_lt n g then n else g) ≡ nat_lt p n
at_most p n g h = by (cases_lt n g)
  where
    by : (n < g) ⊎ (g ≤ n) → nat_lt p (if nat_lt n g then n else g) ≡ nat_lt p n
    by (inl lt) = ap (λ b. nat_lt p (if b then n else g)) (lt-ltb n g lt)
    by (inr le) = ap (λ b. nat_lt p (if b then n else g)) (le-ltb n g le) ∙ lt-ltb p g h ∙ sym (lt-ltb p n (omega arith))

pub small_test : (u v : ℕ) → u < 128 → v < 128 → tested 8 LtS u v ≡ nat_lt u v
small_test u v h g = ap₂ nat_lt (mod-eq_of_lt (let lt : u + 128 < 256 = omega arith in lt)) (mod-eq_of_lt (let lt : v + 128 < 256 = omega arith in lt)) ∙ same_test (u + 128) (v + 128) u v (λ l. omega arith) (λ l. omega arith)
