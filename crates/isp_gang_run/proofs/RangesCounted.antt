-- What ranges count, from the last one to the first.
use Rattle.std.proofs.Common.{◌≡◌, refl, sym, ap, ap₂, ◌∙◌, ℕ, zero, suc, ◌+◌, ◌*◌, ◌<◌, ◌≤◌, List, [], ◌∷◌, map, length, drop, get_or, arith, drop-cons, ◌⊎◌, inl, inr}
use Rattle.std.proofs.Math.Nat.{add-mul, mul-add, mul_assoc}
use Rattle.isp_meaning.specs.Rounds as Meaning
use Rattle.isp_meaning.specs.Rounds.{counted, length_of, runs_for}
use Rattle.isp_gang_run.specs.Capped.{capped}
use Rattle.isp_gang_values.specs.Left.{range_seen}
use Rattle.isp_gang_values.specs.declared.ranges.Range.{Range}
use Rattle.isp_gang_run.proofs.Counts.{capped_more}

module _ (g : ℕ) (r q : Meaning.Range) (rs : List Meaning.Range) (times : (k : ℕ) → counted g k (q ∷ rs) ≡ k * counted g 1 (q ∷ rs)) where
  first_counted : counted g 1 (r ∷ q ∷ rs) ≡ length_of r + length_of r * counted g 1 (q ∷ rs)
  first_counted =
      let e : 1 * length_of r ≡ length_of r = omega arith in
      ap (λ k. k + counted g k (q ∷ rs)) e ∙ ap (λ k. length_of r + k) (times (length_of r))

  times_more : (o : ℕ) → counted g o (r ∷ q ∷ rs) ≡ o * counted g 1 (r ∷ q ∷ rs)
  times_more o =
      ap (λ k. o * length_of r + k) (times (o * length_of r) ∙ mul_assoc o (length_of r) (counted g 1 (q ∷ rs)))
      ∙ sym (mul-add o (length_of r) (length_of r * counted g 1 (q ∷ rs)))
      ∙ ap (λ k. o * k) (sym first_counted)

-- where the outer ones make so many runs, so many times as much is counted
counted_times : (g : ℕ) (rs : List Meaning.Range) (o : ℕ) → counted g o rs ≡ o * counted g 1 rs
counted_times g [] o = omega arith
counted_times g (r ∷ []) o = ap (λ n. o * n) (let e : runs_for g (length_of r) ≡ 1 * runs_for g (length_of r) = omega arith in e)
counted_times g (r ∷ q ∷ rs) o = times_more g r q rs (counted_times g (q ∷ rs)) o

-- ---- what is capped

capped_few : (n : ℕ) → n < 18446744073709551616 → n ≡ capped n
capped_few n h = omega (arith, h)

capped_or : (n : ℕ) → (capped n ≡ n) ⊎ ((capped n ≡ 18446744073709551615) × (18446744073709551615 ≤ n))
capped_or n = grind arith

capped_times : (m n : ℕ) → capped (capped m * n) ≡ capped (m * n)
capped_times m zero = omega arith
capped_times m (suc n) = by (capped_or m)
  where
    by : (capped m ≡ m) ⊎ ((capped m ≡ 18446744073709551615) × (18446744073709551615 ≤ m)) → capped (capped m * suc n) ≡ capped (m * suc n)
    by (inl e) = ap (λ k. capped (k * suc n)) e
    by (inr h) =
        let e : capped m * suc n ≡ capped m * n + capped m = omega arith in
        let f : m * suc n ≡ m * n + m = omega arith in
        omega (arith, e, f, h.0, h.1)

-- ---- one more range, which stands before those that were counted

dropped : (rs : List Range) (k : ℕ) (r d : Range) → k < length rs → r ≡ get_or rs k d → drop k rs ≡ r ∷ drop (suc k) rs
dropped rs k r d h at = drop-cons rs k d h ∙ ap (λ (x : Range). x ∷ drop (suc k) rs) (sym at)

none_dropped : (rs : List Range) (k : ℕ) → length rs ≤ k → drop k rs ≡ []
none_dropped [] zero h = refl
none_dropped [] (suc k) h = refl
none_dropped (r ∷ rs) zero h = absurd (omega (arith, h))
none_dropped (r ∷ rs) (suc k) h = none_dropped rs k (omega (arith, h))

some_dropped : (rs : List Range) (k : ℕ) → k < length rs → (q : Range) × (qs : List Range) × (drop k rs ≡ q ∷ qs)
some_dropped [] k h = absurd (omega (arith, h))
some_dropped (r ∷ rs) zero h = (r, rs, refl)
some_dropped (r ∷ rs) (suc k) h = some_dropped rs k (omega (arith, h))

module _ (g : ℕ) (rs : List Range) (k n : ℕ) (r d : Range) (h : k < length rs) (at : r ≡ get_or rs k d) (e : n ≡ length_of (range_seen r)) where
  pub last_counted : (c : ℕ) → k + 1 ≡ length rs → c ≡ runs_for g n → c < 18446744073709551616 → c ≡ capped (counted g 1 (map range_seen (drop k rs)))
  last_counted c end is small =
      let one : c ≡ 1 * c = omega arith in
      capped_few c small
      ∙ ap capped (one ∙ ap (λ x. 1 * x) (is ∙ ap (runs_for g) e))
      ∙ sym (ap (λ xs. capped (counted g 1 (map range_seen xs))) (dropped rs k r d h at ∙ ap (λ xs. r ∷ xs) (none_dropped rs (suc k) (omega (arith, end)))))

  pub more_counted : (c f m : ℕ) → (k + 1 ≡ length rs → ⊥) → c ≡ capped (counted g 1 (map range_seen (drop m rs))) → m ≡ k + 1
      → f ≡ capped (capped (c + 1) * n) → f ≡ capped (counted g 1 (map range_seen (drop k rs)))
  more_counted c f m more is next new =
      let j : m ≡ suc k = omega (arith, next) in
      let s = some_dropped rs (suc k) (grind (arith, h, more)) in
      let q = s.0 in
      let qs = s.1 in
      let x = length_of (range_seen r) in
      let all = counted g 1 (map range_seen (q ∷ qs)) in
      let found : drop k rs ≡ r ∷ q ∷ qs = dropped rs k r d h at ∙ ap (λ (xs : List Range). r ∷ xs) s.2 in
      let before : c ≡ capped all = is ∙ ap (λ i. capped (counted g 1 (map range_seen (drop i rs)))) j ∙ ap (λ (xs : List Range). capped (counted g 1 (map range_seen xs))) s.2 in
      new
      ∙ ap₂ (λ u v. capped (capped (u + 1) * v)) before e
      ∙ ap (λ u. capped (u * x)) (capped_more 1 all)
      ∙ capped_times (all + 1) x
      ∙ ap capped (swapped x all ∙ sym (first_counted g (range_seen r) (range_seen q) (map range_seen qs) (counted_times g (range_seen q ∷ map range_seen qs))))
      ∙ sym (ap (λ (xs : List Range). capped (counted g 1 (map range_seen xs))) found)
    where
      swapped : (x c : ℕ) → (c + 1) * x ≡ x + x * c
      swapped x c = add-mul c 1 x ∙ omega arith
