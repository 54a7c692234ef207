-- Faults sorted by where they end, by their rules and by where they start, and each taken out that is there twice.
use Rattle.std.proofs.Common.{◌≡◌, ℕ, ◌<◌, ◌≤◌, ◌⊎◌, inl, inr, Bool, true, cond, refl, sym, ap, subst, ◌∙◌, arith}
use Rattle.std.specs.Prelude.{List, AllPairs, Contains, ◌==◌, ◌&&◌}
use Rattle.std.specs.declared.cmp.Ordering.{Ordering}
use Rattle.std.specs.declared.cmp.Ordering.TheVariants.{Less, Equal, Greater}
use Rattle.std.specs.Cmp.{IsTotalOrder, IsEquivalence}
use Rattle.std.specs.List.{dedup}
use Rattle.std.specs.List.Sorted.{IsPermutation, IsSorted}
use Rattle.std.specs.Ordering.{is_eq, eq_by_cmp, MatchOrdering, nat_cmp, ordering_then}
use Rattle.std.proofs.lemmas.Bool.Decides.{nat_tests}
use Rattle.std.proofs.lemmas.Cmp.{ranked, nat_cmp_total, nat_eq_equiv, on_total, then_total, on_equiv, and_equiv}
use Rattle.std.proofs.lemmas.List.Kept.{Contains-dedup, Contains-from_dedup, IsStrictlySortedBy-dedup}
use Rattle.std.proofs.lemmas.List.Sorted.{Contains-permutation, IsPermutation-sym}
use Rattle.std.proofs.lemmas.Map.Keys.{Less-from_sorted}
use Rattle.isp_lex.specs.declared.fault.Fault.{Fault}
use Rattle.isp_lex.specs.declared.fault.Rule.{Rule}
use Rattle.isp_lex.specs.declared.fault.Rule.TheVariants.{BadByte, BadNumber, BadText, OpenComment, TooLong, Unexpected, TooDeep, LeftOut, UnknownName, NameTwice, Mismatch}
use Rattle.isp_lex.specs.declared.fault.Rule.TheVariants.{Arguments, ConstAssigned, BadPrint, VaryingToUniform, BadExit, NestedForeach, BadExport}
use Rattle.isp_lex.specs.Faults.{number_of}
use Rattle.isp_typed.specs.Order.{NoLater}
use Rattle.isp_breaches.specs.Order.{Before}

-- ---- a rule by its number

numbered : ℕ → Rule
numbered n =
    cond (n == 1) BadByte (cond (n == 2) BadNumber (cond (n == 3) BadText (cond (n == 4) OpenComment (cond (n == 5) TooLong
    (cond (n == 10) Unexpected (cond (n == 11) TooDeep (cond (n == 12) LeftOut (cond (n == 20) UnknownName (cond (n == 21) NameTwice
    (cond (n == 22) Mismatch (cond (n == 23) Arguments (cond (n == 24) ConstAssigned (cond (n == 25) BadPrint
    (cond (n == 30) VaryingToUniform (cond (n == 31) BadExit (cond (n == 32) NestedForeach BadExport))))))))))))))))

numbered_back : (r : Rule) → numbered (number_of r) ≡ r
unfolding numbered
numbered_back BadByte = refl
numbered_back BadNumber = refl
numbered_back BadText = refl
numbered_back OpenComment = refl
numbered_back TooLong = refl
numbered_back Unexpected = refl
numbered_back TooDeep = refl
numbered_back LeftOut = refl
numbered_back UnknownName = refl
numbered_back NameTwice = refl
numbered_back Mismatch = refl
numbered_back Arguments = refl
numbered_back ConstAssigned = refl
numbered_back BadPrint = refl
numbered_back VaryingToUniform = refl
numbered_back BadExit = refl
numbered_back NestedForeach = refl
numbered_back BadExport = refl

one_rule : (r s : Rule) → number_of r ≡ number_of s → r ≡ s
one_rule r s e = sym (numbered_back r) ∙ (ap numbered e ∙ numbered_back s)

one_fault : (f g : Fault) → f.span.end ≡ g.span.end → number_of f.rule ≡ number_of g.rule → f.span.start ≡ g.span.start → f ≡ g
one_fault f g e n s = λ i. record { rule = one_rule f.rule g.rule n i; span = record { start = s i; end = e i } }

-- ---- the order

pub before_answered : (f g : Fault) → Before f g → NoLater f g
before_answered f g b = record {
  order = elim b.order as (λ z. (f.span.end < g.span.end) ⊎ ((f.span.end ≡ g.span.end) × (number_of f.rule ≤ number_of g.rule))) [
    | inl l ↦ inl l
    | inr h ↦ inr (h.0, elim h.1 as (λ z. number_of f.rule ≤ number_of g.rule) [ inl l ↦ omega (arith, l) | inr k ↦ omega (arith, k.0) ])
  ];
}

abbrev Rises : ℕ → ℕ → ℕ → ℕ → ℕ → ℕ → Type 0
Rises a b c d e k = (a < b) ⊎ ((a ≡ b) × ((c < d) ⊎ ((c ≡ d) × (e < k))))

rises_itself : (a c e : ℕ) → Rises a a c c e e → ⊥
rises_itself a c e (inl l) = omega (arith, l)
rises_itself a c e (inr h) = elim h.1 as (λ z. ⊥) [ inl l ↦ omega (arith, l) | inr k ↦ omega (arith, k.1) ]

pub before_itself : (f : Fault) → Before f f → ⊥
before_itself f b = rises_itself _ _ _ b.order

rises_then : (a b c d e k l m n : ℕ) → Rises a b d e k l → Rises b c e m l n → Rises a c d m k n
rises_then a b c d e k l m n (inl x) (inl y) = inl (omega (arith, x, y))
rises_then a b c d e k l m n (inl x) (inr y) = inl (omega (arith, x, y.0))
rises_then a b c d e k l m n (inr x) (inl y) = inl (omega (arith, x.0, y))
rises_then a b c d e k l m n (inr x) (inr y) = inr (x.0 ∙ y.0, inner x.1 y.1)
  where
    inner : (d < e) ⊎ ((d ≡ e) × (k < l)) → (e < m) ⊎ ((e ≡ m) × (l < n)) → (d < m) ⊎ ((d ≡ m) × (k < n))
    inner (inl u) (inl v) = inl (omega (arith, u, v))
    inner (inl u) (inr v) = inl (omega (arith, u, v.0))
    inner (inr u) (inl v) = inl (omega (arith, u.0, v))
    inner (inr u) (inr v) = inr (u.0 ∙ v.0, omega (arith, u.1, v.1))

pub before_then : (f g h : Fault) → Before f g → Before g h → Before f h
before_then f g h a b = record { order = rises_then _ _ _ _ _ _ _ _ _ a.order b.order }

module _ (f g : Fault) where
  by_three : (o p q : Ordering) → MatchOrdering o (f.span.end < g.span.end) (f.span.end ≡ g.span.end) (g.span.end < f.span.end)
      → MatchOrdering p (number_of f.rule < number_of g.rule) (number_of f.rule ≡ number_of g.rule) (number_of g.rule < number_of f.rule)
      → MatchOrdering q (f.span.start < g.span.start) (f.span.start ≡ g.span.start) (g.span.start < f.span.start)
      → Before f g ⊎ ((f ≡ g) ⊎ Before g f)
  by_three Less p q a b c = inl (record { order = inl a })
  by_three Greater p q a b c = inr (inr (record { order = inl a }))
  by_three Equal Less q a b c = inl (record { order = inr (a, inl b) })
  by_three Equal Greater q a b c = inr (inr (record { order = inr (sym a, inl b) }))
  by_three Equal Equal Less a b c = inl (record { order = inr (a, inr (b, c)) })
  by_three Equal Equal Greater a b c = inr (inr (record { order = inr (sym a, inr (sym b, c)) }))
  by_three Equal Equal Equal a b c = inr (inl (one_fault f g a b c))

pub before_total : (f g : Fault) → Before f g ⊎ ((f ≡ g) ⊎ Before g f)
before_total f g = by_three f g _ _ _ (ranked f.span.end g.span.end _ refl) (ranked (number_of f.rule) (number_of g.rule) _ refl) (ranked f.span.start g.span.start _ refl)

-- ---- the order by the keys of the code

abbrev pub place_of : Fault → ℕ × ℕ × ℕ
place_of f = (f.span.end, number_of f.rule, f.span.start)

abbrev pub by_place : Fault → Fault → Ordering
by_place f g = ordering_then (ordering_then (nat_cmp f.span.end g.span.end) (nat_cmp (number_of f.rule) (number_of g.rule))) (nat_cmp f.span.start g.span.start)

abbrev pub same_place : Fault → Fault → Bool
same_place f g = (f.span.end == g.span.end && number_of f.rule == number_of g.rule) && f.span.start == g.span.start

by_place_total : IsTotalOrder by_place
by_place_total =
    then_total (then_total (on_total (λ (f : Fault). f.span.end) nat_cmp_total) (on_total (λ (f : Fault). number_of f.rule) nat_cmp_total)) (on_total (λ (f : Fault). f.span.start) nat_cmp_total)

same_place_equiv : IsEquivalence same_place
same_place_equiv =
    and_equiv (and_equiv (on_equiv (λ (f : Fault). f.span.end) nat_eq_equiv) (on_equiv (λ (f : Fault). number_of f.rule) nat_eq_equiv)) (on_equiv (λ (f : Fault). f.span.start) nat_eq_equiv)

tie : (a b : ℕ) → (a == b) ≡ is_eq (nat_cmp a b)
tie a b = grind (arith, nat_tests)

both_tie : (s t : Bool) (o p : Ordering) → s ≡ is_eq o → t ≡ is_eq p → (s && t) ≡ is_eq (ordering_then o p)
both_tie s t Less p e k = ap (λ z. z && t) e
both_tie s t Equal p e k = ap (λ z. z && t) e ∙ k
both_tie s t Greater p e k = ap (λ z. z && t) e

ties : (f g : Fault) → same_place f g ≡ eq_by_cmp by_place f g
ties f g =
    let ends = tie f.span.end g.span.end in
    let rules = tie (number_of f.rule) (number_of g.rule) in
    let starts = tie f.span.start g.span.start in
    both_tie _ _ _ (nat_cmp f.span.start g.span.start) (both_tie _ _ (nat_cmp f.span.end g.span.end) (nat_cmp (number_of f.rule) (number_of g.rule)) ends rules) starts

three_same : (a b c d e k : ℕ) → ((a == b && c == d) && e == k) ≡ true → (a ≡ b) × (c ≡ d) × (e ≡ k)
three_same a b c d e k h = (grind (arith, nat_tests), grind (arith, nat_tests), grind (arith, nat_tests))

one_place : (f g : Fault) → same_place f g ≡ true → f ≡ g
one_place f g h = let t = three_same _ _ _ _ _ _ h in one_fault f g t.0 t.1 t.2

module _ (f g : Fault) where
  from_less : (o p q : Ordering) → MatchOrdering o (f.span.end < g.span.end) (f.span.end ≡ g.span.end) (g.span.end < f.span.end)
      → MatchOrdering p (number_of f.rule < number_of g.rule) (number_of f.rule ≡ number_of g.rule) (number_of g.rule < number_of f.rule)
      → MatchOrdering q (f.span.start < g.span.start) (f.span.start ≡ g.span.start) (g.span.start < f.span.start)
      → ordering_then (ordering_then o p) q ≡ Less → Before f g
  from_less Less p q a b c e = record { order = inl a }
  from_less Greater p q a b c e = absurd (let no : ⊥ = cc in no)
  from_less Equal Less q a b c e = record { order = inr (a, inl b) }
  from_less Equal Greater q a b c e = absurd (let no : ⊥ = cc in no)
  from_less Equal Equal Less a b c e = record { order = inr (a, inr (b, c)) }
  from_less Equal Equal Equal a b c e = absurd (let no : ⊥ = cc in no)
  from_less Equal Equal Greater a b c e = absurd (let no : ⊥ = cc in no)

before_from_less : (f g : Fault) → by_place f g ≡ Less → Before f g
before_from_less f g e = from_less f g _ _ _ (ranked f.span.end g.span.end _ refl) (ranked (number_of f.rule) (number_of g.rule) _ refl) (ranked f.span.start g.span.start _ refl) e

-- ---- a list that is sorted, and in which nothing stands twice

pub sorted_once : (xs ys : List Fault) → IsSorted by_place xs → ys ≡ dedup same_place xs → AllPairs Before ys
sorted_once xs ys s is = subst (λ (z : List Fault). AllPairs Before z) (sym is)
    (λ i j d l h. before_from_less _ _ (Less-from_sorted by_place (dedup same_place xs) i j d (IsStrictlySortedBy-dedup by_place_total ties xs s) l h))

pub once_keeps : (xs ys zs : List Fault) → IsPermutation xs ys → zs ≡ dedup same_place ys → (f : Fault) → Contains xs f → Contains zs f
once_keeps xs ys zs p is f h = subst (λ (z : List Fault). Contains z f) (sym is) (Contains-dedup same_place_equiv one_place ys f (Contains-permutation xs ys f p h))

pub once_adds_none : (xs ys zs : List Fault) → IsPermutation xs ys → zs ≡ dedup same_place ys → (f : Fault) → Contains zs f → Contains xs f
once_adds_none xs ys zs p is f h = Contains-permutation ys xs f (IsPermutation-sym xs ys p) (Contains-from_dedup same_place ys f (subst (λ (z : List Fault). Contains z f) is h))
