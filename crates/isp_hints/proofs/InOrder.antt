-- Hints sorted by where their places start and end and by their kinds, and each taken out that is there twice.
use Rattle.std.proofs.Common.{◌≡◌, ℕ, ◌<◌, inl, inr, Bool, true, cond, refl, sym, ap, subst, ◌∙◌, arith}
use Rattle.std.specs.Prelude.{List, AllPairs, Contains, ◌==◌, ◌&&◌}
use Rattle.std.specs.declared.cmp.Ordering.{Ordering}
use Rattle.std.specs.declared.cmp.Ordering.TheVariants.{Less, Equal, Greater}
use Rattle.std.specs.Cmp.{IsTotalOrder, IsEquivalence}
use Rattle.std.specs.List.{dedup}
use Rattle.std.specs.List.Sorted.{IsPermutation, IsSorted}
use Rattle.std.specs.Ordering.{is_eq, eq_by_cmp, MatchOrdering, nat_cmp, ordering_then}
use Rattle.std.proofs.lemmas.Bool.Decides.{nat_tests}
use Rattle.std.proofs.lemmas.Cmp.{ranked, nat_cmp_total, nat_eq_equiv, on_total, then_total, on_equiv, and_equiv}
use Rattle.std.proofs.lemmas.List.Kept.{Contains-dedup, Contains-from_dedup, IsStrictlySortedBy-dedup}
use Rattle.std.proofs.lemmas.List.Sorted.{Contains-permutation, IsPermutation-sym}
use Rattle.std.proofs.lemmas.Map.Keys.{Less-from_sorted}
use Rattle.isp_hints.specs.Hints.{Before, number_of}
use Rattle.isp_hints.specs.declared.hint.Hint.{Hint}
use Rattle.isp_hints.specs.declared.hint.Slow.{Slow}
use Rattle.isp_hints.specs.declared.hint.Slow.TheVariants.{Gathered, Scattered, Parted, LeftOff}

-- ---- a kind by its number

numbered : ℕ → Slow
numbered n = cond (n == 0) Gathered (cond (n == 1) Scattered (cond (n == 2) Parted LeftOff))

numbered_back : (s : Slow) → numbered (number_of s) ≡ s
unfolding numbered
numbered_back Gathered = refl
numbered_back Scattered = refl
numbered_back Parted = refl
numbered_back LeftOff = refl

one_kind : (r s : Slow) → number_of r ≡ number_of s → r ≡ s
one_kind r s e = sym (numbered_back r) ∙ (ap numbered e ∙ numbered_back s)

one_hint : (f g : Hint) → f.place.start ≡ g.place.start → f.place.end ≡ g.place.end → number_of f.slow ≡ number_of g.slow → f ≡ g
one_hint f g s e n = λ i. record { slow = one_kind f.slow g.slow n i; place = record { start = s i; end = e i } }

-- ---- the order by the keys of the code

abbrev pub key_of : Hint → ℕ × ℕ × ℕ
key_of f = (f.place.start, f.place.end, number_of f.slow)

abbrev by_key : Hint → Hint → Ordering
by_key f g = ordering_then (ordering_then (nat_cmp f.place.start g.place.start) (nat_cmp f.place.end g.place.end)) (nat_cmp (number_of f.slow) (number_of g.slow))

abbrev pub same_key : Hint → Hint → Bool
same_key f g = (f.place.start == g.place.start && f.place.end == g.place.end) && number_of f.slow == number_of g.slow

by_key_total : IsTotalOrder by_key
by_key_total =
    then_total (then_total (on_total (λ (f : Hint). f.place.start) nat_cmp_total) (on_total (λ (f : Hint). f.place.end) nat_cmp_total)) (on_total (λ (f : Hint). number_of f.slow) nat_cmp_total)

same_key_equiv : IsEquivalence same_key
same_key_equiv =
    and_equiv (and_equiv (on_equiv (λ (f : Hint). f.place.start) nat_eq_equiv) (on_equiv (λ (f : Hint). f.place.end) nat_eq_equiv)) (on_equiv (λ (f : Hint). number_of f.slow) nat_eq_equiv)

tie : (a b : ℕ) → (a == b) ≡ is_eq (nat_cmp a b)
tie a b = grind (arith, nat_tests)

both_tie : (s t : Bool) (o p : Ordering) → s ≡ is_eq o → t ≡ is_eq p → (s && t) ≡ is_eq (ordering_then o p)
both_tie s t Less p e k = ap (λ z. z && t) e
both_tie s t Equal p e k = ap (λ z. z && t) e ∙ k
both_tie s t Greater p e k = ap (λ z. z && t) e

ties : (f g : Hint) → same_key f g ≡ eq_by_cmp by_key f g
ties f g =
    let starts = tie f.place.start g.place.start in
    let ends = tie f.place.end g.place.end in
    let kinds = tie (number_of f.slow) (number_of g.slow) in
    both_tie _ _ _ (nat_cmp (number_of f.slow) (number_of g.slow)) (both_tie _ _ (nat_cmp f.place.start g.place.start) (nat_cmp f.place.end g.place.end) starts ends) kinds

three_same : (a b c d e k : ℕ) → ((a == b && c == d) && e == k) ≡ true → (a ≡ b) × (c ≡ d) × (e ≡ k)
three_same a b c d e k h = (grind (arith, nat_tests), grind (arith, nat_tests), grind (arith, nat_tests))

one_key : (f g : Hint) → same_key f g ≡ true → f ≡ g
one_key f g h = let t = three_same _ _ _ _ _ _ h in one_hint f g t.0 t.1 t.2

module _ (f g : Hint) where
  from_less : (o p q : Ordering) → MatchOrdering o (f.place.start < g.place.start) (f.place.start ≡ g.place.start) (g.place.start < f.place.start)
      → MatchOrdering p (f.place.end < g.place.end) (f.place.end ≡ g.place.end) (g.place.end < f.place.end)
      → MatchOrdering q (number_of f.slow < number_of g.slow) (number_of f.slow ≡ number_of g.slow) (number_of g.slow < number_of f.slow)
      → ordering_then (ordering_then o p) q ≡ Less → Before f g
  from_less Less p q a b c e = record { order = inl a }
  from_less Greater p q a b c e = absurd (let no : ⊥ = cc in no)
  from_less Equal Less q a b c e = record { order = inr (a, inl b) }
  from_less Equal Greater q a b c e = absurd (let no : ⊥ = cc in no)
  from_less Equal Equal Less a b c e = record { order = inr (a, inr (b, c)) }
  from_less Equal Equal Equal a b c e = absurd (let no : ⊥ = cc in no)
  from_less Equal Equal Greater a b c e = absurd (let no : ⊥ = cc in no)

before_from_less : (f g : Hint) → by_key f g ≡ Less → Before f g
before_from_less f g e =
    from_less f g _ _ _ (ranked f.place.start g.place.start _ refl) (ranked f.place.end g.place.end _ refl) (ranked (number_of f.slow) (number_of g.slow) _ refl) e

-- ---- a list that is sorted, and in which nothing stands twice

pub sorted_once : (xs ys : List Hint) → IsSorted by_key xs → ys ≡ dedup same_key xs → AllPairs Before ys
sorted_once xs ys s is = subst (λ (z : List Hint). AllPairs Before z) (sym is)
    (λ i j d l h. before_from_less _ _ (Less-from_sorted by_key (dedup same_key xs) i j d (IsStrictlySortedBy-dedup by_key_total ties xs s) l h))

pub once_keeps : (xs ys zs : List Hint) → IsPermutation xs ys → zs ≡ dedup same_key ys → (f : Hint) → Contains xs f → Contains zs f
once_keeps xs ys zs p is f h = subst (λ (z : List Hint). Contains z f) (sym is) (Contains-dedup same_key_equiv one_key ys f (Contains-permutation xs ys f p h))

pub once_adds_none : (xs ys zs : List Hint) → IsPermutation xs ys → zs ≡ dedup same_key ys → (f : Hint) → Contains zs f → Contains xs f
once_adds_none xs ys zs p is f h = Contains-permutation ys xs f (IsPermutation-sym xs ys p) (Contains-from_dedup same_key ys f (subst (λ (z : List Hint). Contains z f) is h))
