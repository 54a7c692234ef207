-- The breaches one after another, the first one first: what a number has found is the first of those to which it leads.
use Rattle.std.proofs.Common.{◌≡◌, ℕ, zero, suc, ◌+◌, ◌<◌, ◌≤◌, ◌⊎◌, inl, inr, refl, sym, ap, subst, ◌∙◌, arith, replicate, get_or, false}
use Rattle.std.specs.Prelude.{List, Option, Some, None, slice_get, length, Contains}
use Rattle.std.specs.List.Sorted.{IsPermutation, IsSortedByKey}
use Rattle.std.specs.Ordering.{is_lt, nat_cmp, ordering_then}
use Rattle.std.proofs.lemmas.Bool.{cases_lt}
use Rattle.std.proofs.lemmas.Bool.Decides.{nat_tests}
use Rattle.std.proofs.lemmas.Option.{slice_get_within, slice_get_read, get_or_from_slice_get}
use Rattle.std.proofs.lemmas.List.Sorted.{Contains-permutation, IsPermutation-sym}
use Rattle.isp_independence.specs.declared.dependence.Dependence.{Dependence}
use Rattle.isp_independence.specs.declared.spread.Breach.{Breach}
use Rattle.isp_independence.specs.Dependences.{number_of, NotAfter, IsFirst, Answered}
use Rattle.isp_independence.proofs.Order.{not_after_same, not_after_then}
use Rattle.isp_independence.specs.reader.Paths.{Path, found_at, IsFound, Meets}
use Rattle.isp_independence.specs.reader.Visits.{IsClosed, Spreads}
use Rattle.isp_independence.specs.reader.Firsts.{IsListed, IsOrdered, AreFirst}
use Rattle.isp_independence.proofs.Arcs.{closed_path}
use Rattle.isp_independence.proofs.Visiting.{found_within, found_more}

-- after the first i breaches
pub record Firsts (table : List (List ℕ)) (own : List (Option Dependence)) (order : List Breach) (i : ℕ) (found : List (Option Dependence)) : Type 0 where
  pub long : length found ≡ length own
  pub each : (f : ℕ) (e : Dependence) → found_at found f ≡ Some e → IsFirst e (Meets table own f)
  pub closed : IsClosed table found
  pub past : (k : ℕ) (b : Breach) → k < i → slice_get order k ≡ Some b → IsFound found b.function

nothing_found : (n f : ℕ) → found_at (replicate {A = Option Dependence} n None) f ≡ None
nothing_found zero f = refl
nothing_found (suc n) zero = refl
nothing_found (suc n) (suc f) = nothing_found n f

not_found : (n f : ℕ) → IsFound (replicate {A = Option Dependence} n None) f → ⊥
not_found n f h = let e = nothing_found n f in let i = h.is in cc

pub firsts_none : (table : List (List ℕ)) (own : List (Option Dependence)) (order : List Breach) (n : ℕ) → length (replicate {A = Option Dependence} n None) ≡ length own
    → Firsts table own order 0 (replicate n None)
firsts_none table own order n l = record {
  long = l;
  each = λ f e h. absurd (not_found n f (record { what = e; is = h }));
  closed = record { callers = λ f g h a. absurd (not_found n f h) };
  past = λ k b h e. absurd (omega (arith, h));
}

-- who leads to one that has found something has found something
pub found_along : (table : List (List ℕ)) (found : List (Option Dependence)) → IsClosed table found → (a c : ℕ) → Path table a c → IsFound found c → IsFound found a
found_along table found c a z p h = closed_path table (IsFound found) (λ x y i r. c.callers y x i r) a z p h

pub firsts_more : (table : List (List ℕ)) (own : List (Option Dependence)) (order : List Breach) (i : ℕ) (found next : List (Option Dependence)) (b : Breach) → IsOrdered own order → slice_get order i ≡ Some b
    → Firsts table own order i found → Spreads table b.function b.dependence found next → Firsts table own order (i + 1) next
firsts_more table own order i found next b o there s t = record {
  long = t.long ∙ s.long;
  each = λ f e h. elim (t.fresh f e h) as (λ z. IsFirst e (Meets table own f)) [ inl k ↦ s.each f e k | inr k ↦ first f e k ];
  closed = t.closed s.closed;
  past = λ k c h e. elim (cases_lt k i) as (λ z. IsFound next c.function) [
    | inl l ↦ found_more found next c.function t.kept (s.past k c l e)
    | inr l ↦ this k c e (omega (arith, l, h))
  ];
} where
  same : (c : Breach) → Some c ≡ Some b → c ≡ b
  same c e = cc

  this : (k : ℕ) (c : Breach) → slice_get order k ≡ Some c → k ≡ i → IsFound next c.function
  this k c e q =
      let r : c ≡ b = same c (sym e ∙ (ap (slice_get order) q ∙ there)) in
      subst (λ (x : Breach). IsFound next x.function) (sym r) (t.here (subst (λ n. b.function < n) (sym s.long) (found_within own b.function (record { what = b.dependence; is = o.each i b there }))))

  later : (f : ℕ) → found_at found f ≡ None → (x : Dependence) → Meets table own f x → NotAfter b.dependence x
  later f none x m =
      let w = o.all m.at x m.is in
      elim (cases_lt w.0 i) as (λ z. NotAfter b.dependence x) [
        | inl l ↦ absurd (lost (found_along table found s.closed f m.at m.path (s.past w.0 _ l w.1)))
        | inr l ↦ o.rises i w.0 b _ l there w.1
      ]
    where
      lost : IsFound found f → ⊥
      lost h = let e = h.is in cc

  first : (f : ℕ) (e : Dependence) → (e ≡ b.dependence) × (found_at found f ≡ None) × Path table f b.function → IsFirst e (Meets table own f)
  first f e k =
      subst (λ (x : Dependence). IsFirst x (Meets table own f)) (sym k.0)
      (record { at = b.function; path = k.2; is = o.each i b there }, λ x m. later f k.1 x m)

pub firsts_all : (table : List (List ℕ)) (own : List (Option Dependence)) (order : List Breach) (i : ℕ) (found : List (Option Dependence)) → IsOrdered own order → length order ≤ i
    → Firsts table own order i found → AreFirst table own found
firsts_all table own order i found o l s = record { each = λ f. go f (found_at found f) refl } where
  go : (f : ℕ) (r : Option Dependence) → found_at found f ≡ r → Answered r (Meets table own f)
  go f (Some e) h = record { by = s.each f e h }
  go f None h = record { by = λ d m. lost d m } where
    lost : (d : Dependence) → Meets table own f d → ⊥
    lost d m =
        let w = o.all m.at d m.is in
        let k = found_along table found s.closed f m.at m.path (s.past w.0 _ (omega (arith, l, slice_get_within order w.0 _ w.1)) w.1) in
        let e = k.is in cc

-- ---- sorted by place and rule, the breaches are in order

contains_at : {X : Type 0} (xs : List X) (k : ℕ) (x : X) → slice_get xs k ≡ Some x → Contains xs x
contains_at xs k x e = (k, slice_get_within xs k x e, get_or_from_slice_get xs k x x e)

at_contains : {X : Type 0} (xs : List X) (x : X) → Contains xs x → (k : ℕ) × (slice_get xs k ≡ Some x)
at_contains xs x h = (h.0, slice_get_read xs (length xs) h.0 x refl h.1 (sym h.2))

-- by what breaches are sorted
abbrev pub place_and_rule : Breach → ℕ × ℕ
place_and_rule b = (b.dependence.span.start, number_of b.dependence.rule)

pair_order : (a b c d : ℕ) → is_lt (ordering_then (nat_cmp c a) (nat_cmp d b)) ≡ false → (a < c) ⊎ ((a ≡ c) × (b ≤ d))
pair_order a b c d e = go (cases_lt a c) (cases_lt c a) (cases_lt d b) where
  go : (a < c) ⊎ (c ≤ a) → (c < a) ⊎ (a ≤ c) → (d < b) ⊎ (b ≤ d) → (a < c) ⊎ ((a ≡ c) × (b ≤ d))
  go (inl h) k m = inl h
  go (inr h) (inl k) m = absurd (let z : ⊥ = grind (arith, e, k, nat_tests) in z)
  go (inr h) (inr k) (inl m) = absurd (let z : ⊥ = grind (arith, e, h, k, m, nat_tests) in z)
  go (inr h) (inr k) (inr m) = inr (omega (arith, h, k), m)

pub sorted_rises : (bs : List Breach) → IsSortedByKey place_and_rule (λ x y. ordering_then (nat_cmp x.0 y.0) (nat_cmp x.1 y.1)) bs
    → (i j : ℕ) (a b : Breach) → i ≤ j → slice_get bs i ≡ Some a → slice_get bs j ≡ Some b → NotAfter a.dependence b.dependence
sorted_rises bs s i j a b l x y = subst (λ (z : Breach). NotAfter a.dependence z.dependence) (same b y) (far j l (slice_get_within bs j b y)) where
  same : (b : Breach) → slice_get bs j ≡ Some b → get_or bs j a ≡ b
  same b y = get_or_from_slice_get bs j b a y

  near : (k : ℕ) → k + 1 < length bs → NotAfter (get_or bs k a).dependence (get_or bs (k + 1) a).dependence
  near k h = record { order = pair_order _ _ _ _ (s k a (omega arith) h) }

  far : (j : ℕ) → i ≤ j → j < length bs → NotAfter a.dependence (get_or bs j a).dependence
  far zero l h = subst (λ (z : Breach). NotAfter a.dependence z.dependence) (sym (get_or_from_slice_get bs zero a a (subst (λ n. slice_get bs n ≡ Some a) (let q : i ≡ zero = omega (arith, l) in q) x))) (not_after_same a.dependence)
  far (suc j) l h = elim (cases_lt j i) as (λ z. NotAfter a.dependence (get_or bs (suc j) a).dependence) [
    | inl k ↦ subst (λ (z : Breach). NotAfter a.dependence z.dependence) (sym (get_or_from_slice_get bs (suc j) a a (subst (λ n. slice_get bs n ≡ Some a) (let q : i ≡ suc j = omega (arith, l, k) in q) x))) (not_after_same a.dependence)
    | inr k ↦ not_after_then _ _ _ (far j k (omega (arith, h))) (subst (λ n. NotAfter (get_or bs j a).dependence (get_or bs n a).dependence) (let q : j + 1 ≡ suc j = omega arith in q) (near j (omega (arith, h))))
  ]

pub order_is : (own : List (Option Dependence)) (xs ys : List Breach) → IsListed own (length own) xs → IsPermutation xs ys
    → IsSortedByKey place_and_rule (λ x y. ordering_then (nat_cmp x.0 y.0) (nat_cmp x.1 y.1)) ys → IsOrdered own ys
order_is own xs ys l p s = record {
  each = λ k b e. let w = at_contains xs b (Contains-permutation ys xs b (IsPermutation-sym xs ys p) (contains_at ys k b e)) in l.each w.0 b w.1;
  all = λ h d e. let w = l.all h d (found_within own h (record { what = d; is = e })) e in at_contains ys _ (Contains-permutation xs ys _ p (contains_at xs w.0 _ w.1));
  rises = sorted_rises ys s;
}
