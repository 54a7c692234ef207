-- The indices of a run, one by one.
use Rattle.std.proofs.Common.{◌≡◌, refl, sym, ap, ◌∙◌, ℕ, zero, suc, ◌+◌, ◌<◌, Bool, true, false, List, [], ◌∷◌, ◌++◌, length, get_or, arith}
use Rattle.std.proofs.Common.{⊎_elim, eq-eqb, ne_eqb}
use Rattle.std.proofs.lemmas.Bool.{cases_eq}
use Rattle.std.specs.Prelude.{ℤ, pos, ◌+ℤ◌, nat_eq}
use Rattle.isp_gang_values.specs.Left.{number_now, indices_now}
use Rattle.isp_gang_values.specs.declared.ranges.Range.{Range}

-- the indices of the first n ranges, of which the last of all is special
abbrev pub indices_to : ℕ → List Range → List (ℕ × (ℕ → ℤ))
indices_to n [] = []
indices_to zero (r ∷ rs) = []
indices_to (suc n) (r ∷ []) = (r.index, λ p. r.next +ℤ pos p) ∷ []
indices_to (suc n) (r ∷ q ∷ rs) = (r.index, λ p. r.next) ∷ indices_to n (q ∷ rs)

pub no_indices : (rs : List Range) → indices_to 0 rs ≡ []
no_indices [] = refl
no_indices (r ∷ rs) = refl

pub all_indices : (n : ℕ) (rs : List Range) → length rs ≡ n → indices_to n rs ≡ indices_now rs
all_indices n [] h = by n
  where
    by : (n : ℕ) → indices_to n [] ≡ []
    by zero = refl
    by (suc n) = refl
all_indices zero (r ∷ rs) h = absurd (omega (arith, h))
all_indices (suc n) (r ∷ []) h = refl
all_indices (suc n) (r ∷ q ∷ rs) h = ap (λ xs. (r.index, λ p. r.next) ∷ xs) (all_indices n (q ∷ rs) (omega (arith, h)))

-- whether a range is the last
abbrev pub is_last : ℕ → List Range → Bool
is_last k [] = false
is_last zero (r ∷ []) = true
is_last zero (r ∷ q ∷ rs) = false
is_last (suc k) (r ∷ rs) = is_last k rs

pub last_place : (k n : ℕ) (rs : List Range) → k < length rs → n ≡ length rs → nat_eq (k + 1) n ≡ is_last k rs
last_place k n [] h e = absurd (omega (arith, h))
last_place zero n (r ∷ []) h e = eq-eqb (0 + 1) n (omega (arith, e))
last_place zero n (r ∷ q ∷ rs) h e = ne_eqb (0 + 1) n (λ i. absurd (omega (arith, i, e)))
last_place (suc k) n (r ∷ rs) h e =
    ⊎_elim (λ (i : k + 1 ≡ length rs). eq-eqb (suc k + 1) n (omega (arith, i, e)) ∙ sym (eq-eqb (k + 1) (length rs) i)) (λ ne. ne_eqb (suc k + 1) n (λ i. ne (omega (arith, i, e))) ∙ sym (ne_eqb (k + 1) (length rs) ne)) (cases_eq (k + 1) (length rs))
    ∙ last_place k (length rs) rs (omega (arith, h)) refl

-- one more index
abbrev pub index_of : Range → Bool → ℕ × (ℕ → ℤ)
index_of r b = (r.index, number_now r.next b)

pub one_index : (k : ℕ) (rs : List Range) (r : Range) → k < length rs → r ≡ get_or rs k r → indices_to (suc k) rs ≡ indices_to k rs ++ index_of r (is_last k rs) ∷ []
one_index k [] r h is = absurd (omega (arith, h))
one_index zero (x ∷ []) r h is = ap (λ (z : Range). (z.index, λ p. z.next +ℤ pos p) ∷ []) (sym is)
one_index zero (x ∷ q ∷ rs) r h is = ap (λ (z : Range). (z.index, λ p. z.next) ∷ []) (sym is) ∙ ap (λ xs. index_of r false ∷ xs) (sym (no_indices (q ∷ rs))) ∙ ap (λ xs. index_of r false ∷ xs) (no_indices (q ∷ rs))
one_index (suc k) (x ∷ []) r h is = absurd (omega (arith, h))
one_index (suc k) (x ∷ q ∷ rs) r h is = ap (λ xs. (x.index, λ p. x.next) ∷ xs) (one_index k (q ∷ rs) r (omega (arith, h)) is)
