-- A table of callers, made of a table of calls.
use Rattle.std.proofs.Common.{◌≡◌, ◌≢◌, ℕ, zero, suc, ◌+◌, ◌<◌, ◌≤◌, ◌⊎◌, inl, inr, refl, sym, ap, subst, ◌∙◌, arith, set, length-set, take, get_or, replicate, Vec, Global}
use Rattle.std.specs.Prelude.{List, [], ◌∷◌, ◌++◌, Some, option_map, slice_get, Contains, length}
use Rattle.std.proofs.lemmas.Bool.{cases_eq, cases_lt}
use Rattle.std.proofs.lemmas.Option.{slice_get-map, slice_get_read, slice_get_within}
use Rattle.std.proofs.lemmas.List.{take_more, take_all, map-set, length-replicate}
use Rattle.std.proofs.lemmas.List.Elements.{Contains-append_left, Contains-push, Contains-push_cases}
use Rattle.isp_independence.specs.Tables.{lists_of}
use Rattle.isp_independence.specs.reader.Paths.{Arc, Adds, IsReversed}

get_set : {X : Type 0} (xs : List X) (i : ℕ) (x : X) → i < length xs → slice_get (set xs i x) i ≡ Some x
get_set [] i x h = absurd (omega (arith, h))
get_set (y ∷ xs) zero x h = refl
get_set (y ∷ xs) (suc i) x h = get_set xs i x (omega (arith, h))

get_aside : {X : Type 0} (xs : List X) (i j : ℕ) (x : X) → j ≢ i → slice_get (set xs i x) j ≡ slice_get xs j
get_aside [] i j x n = refl
get_aside (y ∷ xs) zero zero x n = absurd (n refl)
get_aside (y ∷ xs) zero (suc j) x n = refl
get_aside (y ∷ xs) (suc i) zero x n = refl
get_aside (y ∷ xs) (suc i) (suc j) x n = get_aside xs i j x (λ e. n (ap suc e))

pub adds_none : (t : List (List ℕ)) (more : ℕ → ℕ → Type 0) → ((a b : ℕ) → a < length t → more a b → ⊥) → Adds t t more
adds_none t more empty = record { long = refl; kept = λ a b x. x; added = λ a b l m. absurd (empty a b l m); only = λ a b x. inl x }

pub adds_then : (t u v : List (List ℕ)) (p q r : ℕ → ℕ → Type 0) → ((a b : ℕ) → p a b → r a b) → ((a b : ℕ) → q a b → r a b) → ((a b : ℕ) → r a b → p a b ⊎ q a b)
    → Adds t u p → Adds u v q → Adds t v r
adds_then t u v p q r left right both x y = record {
  long = y.long ∙ x.long;
  kept = λ a b k. y.kept a b (x.kept a b k);
  added = λ a b l m. elim (both a b m) as (λ z. Arc v a b) [ inl k ↦ y.kept a b (x.added a b l k) | inr k ↦ y.added a b (subst (λ n. a < n) (sym x.long) l) k ];
  only = λ a b k. elim (y.only a b k) as (λ z. Arc t a b ⊎ r a b) [
    | inl m ↦ elim (x.only a b m) as (λ z. Arc t a b ⊎ r a b) [ inl w ↦ inl w | inr w ↦ inr (left a b w) ]
    | inr m ↦ inr (right a b m)
  ];
}

-- one more in a row
pub adds_one : (t : List (List ℕ)) (n : ℕ) (row : List ℕ) (c : ℕ) → slice_get t n ≡ Some row → Adds t (set t n (row ++ c ∷ [])) (λ a b. (a ≡ n) × (b ≡ c))
adds_one t n row c there = record {
  long = length-set t n (row ++ c ∷ []);
  kept = λ a b k. kept a b k (cases_eq a n);
  added = λ a b l m. subst (λ i. Arc new i b) (sym m.0) (subst (λ j. Arc new n j) (sym m.1) (record { row = row ++ c ∷ []; there = here; holds = Contains-push row c }));
  only = λ a b k. only a b k (cases_eq a n);
} where
  new : List (List ℕ)
  new = set t n (row ++ c ∷ [])

  here : slice_get (set t n (row ++ c ∷ [])) n ≡ Some (row ++ c ∷ [])
  here = get_set t n (row ++ c ∷ []) (slice_get_within t n row there)

  same : (x y : List ℕ) → Some x ≡ Some y → x ≡ y
  same x y e = cc

  kept : (a b : ℕ) → Arc t a b → (a ≡ n) ⊎ (a ≢ n) → Arc (set t n (row ++ c ∷ [])) a b
  kept a b k (inl e) =
      let r : k.row ≡ row = same k.row row (sym k.there ∙ (ap (slice_get t) e ∙ there)) in
      record { row = row ++ c ∷ []; there = ap (slice_get (set t n (row ++ c ∷ []))) e ∙ here; holds = Contains-append_left row (c ∷ []) b (subst (λ x. Contains x b) r k.holds) }
  kept a b k (inr e) = record { row = k.row; there = get_aside t n a (row ++ c ∷ []) e ∙ k.there; holds = k.holds }

  only : (a b : ℕ) → Arc (set t n (row ++ c ∷ [])) a b → (a ≡ n) ⊎ (a ≢ n) → Arc t a b ⊎ ((a ≡ n) × (b ≡ c))
  only a b k (inl e) =
      let r : k.row ≡ row ++ c ∷ [] = same k.row (row ++ c ∷ []) (sym k.there ∙ (ap (slice_get (set t n (row ++ c ∷ []))) e ∙ here)) in
      elim (Contains-push_cases row c b (subst (λ x. Contains x b) r k.holds)) as (λ z. Arc t a b ⊎ ((a ≡ n) × (b ≡ c))) [
        | inl x ↦ inl (record { row = row; there = ap (slice_get t) e ∙ there; holds = x })
        | inr x ↦ inr (e, sym x)
      ]
  only a b k (inr e) = inl (record { row = k.row; there = sym (get_aside t n a (row ++ c ∷ []) e) ∙ k.there; holds = k.holds })

-- a row of a table as code holds it
pub row_read : (rows : List (Vec ℕ Global)) (n : ℕ) (row : Vec ℕ Global) → n < length rows → row ≡ get_or rows n row → slice_get (lists_of rows) n ≡ Some row.items
row_read rows n row h e = slice_get-map (λ (v : Vec ℕ Global). v.items) rows n ∙ ap (option_map (λ (v : Vec ℕ Global). v.items)) (slice_get_read rows (length rows) n row refl h e)

pub caller_added : (rows : List (Vec ℕ Global)) (n : ℕ) (row new : Vec ℕ Global) (c : ℕ) → n < length rows → row ≡ get_or rows n row → new.items ≡ row.items ++ c ∷ []
    → Adds (lists_of rows) (lists_of (set rows n new)) (λ a b. (a ≡ n) × (b ≡ c))
caller_added rows n row new c h e i =
    let same : lists_of (set rows n new) ≡ set (lists_of rows) n (row.items ++ c ∷ []) = map-set (λ (v : Vec ℕ Global). v.items) rows n new ∙ ap (set (lists_of rows) n) i in
    subst (λ t. Adds (lists_of rows) t (λ a b. (a ≡ n) × (b ≡ c))) (sym same) (adds_one (lists_of rows) n row.items c (row_read rows n row h e))

-- one more of a row
pub row_more : (t u v : List (List ℕ)) (row : List ℕ) (i c : ℕ) → i < length row → Adds t u (λ a b. Contains (take i row) a × (b ≡ c)) → Adds u v (λ a b. (a ≡ get_or row i 0) × (b ≡ c))
    → Adds t v (λ a b. Contains (take (i + 1) row) a × (b ≡ c))
row_more t u v row i c h x y =
    adds_then t u v _ _ (λ a b. Contains (take (i + 1) row) a × (b ≡ c))
    (λ a b m. (at a (Contains-append_left (take i row) (get_or row i 0 ∷ []) a m.0), m.1))
    (λ a b m. (at a (subst (λ z. Contains (take i row ++ get_or row i 0 ∷ []) z) (sym m.0) (Contains-push (take i row) (get_or row i 0))), m.1))
    (λ a b m. elim (Contains-push_cases (take i row) (get_or row i 0) a (subst (λ z. Contains z a) (take_more row i 0 h) m.0)) as (λ z. (Contains (take i row) a × (b ≡ c)) ⊎ ((a ≡ get_or row i 0) × (b ≡ c))) [
      | inl k ↦ inl (k, m.1)
      | inr k ↦ inr (sym k, m.1)
    ])
    x y
  where
    at : (a : ℕ) → Contains (take i row ++ get_or row i 0 ∷ []) a → Contains (take (i + 1) row) a
    at a k = subst (λ z. Contains z a) (sym (take_more row i 0 h)) k

pub row_all : (t u : List (List ℕ)) (row : List ℕ) (i c : ℕ) → length row ≤ i → Adds t u (λ a b. Contains (take i row) a × (b ≡ c)) → Adds t u (λ a b. Contains row a × (b ≡ c))
row_all t u row i c h x = subst (λ z. Adds t u (λ a b. Contains z a × (b ≡ c))) (take_all i row h) x

-- one more row
pub rows_more : (t u v calls : List (List ℕ)) (i : ℕ) (row : List ℕ) → slice_get calls i ≡ Some row → Adds t u (λ a b. (b < i) × Arc calls b a) → Adds u v (λ a b. Contains row a × (b ≡ i))
    → Adds t v (λ a b. (b < i + 1) × Arc calls b a)
rows_more t u v calls i row there x y =
    adds_then t u v _ _ (λ a b. (b < i + 1) × Arc calls b a)
    (λ a b m. (omega (arith, m.0), m.1))
    (λ a b m. (omega (arith, m.1), record { row = row; there = ap (slice_get calls) m.1 ∙ there; holds = m.0 }))
    (λ a b m. elim (cases_lt b i) as (λ z. ((b < i) × Arc calls b a) ⊎ (Contains row a × (b ≡ i))) [
      | inl k ↦ inl (k, m.1)
      | inr k ↦ inr (in_row a b m.1 (omega (arith, k, m.0)), omega (arith, k, m.0))
    ])
    x y
  where
    same : (r : List ℕ) → Some r ≡ Some row → r ≡ row
    same r e = cc

    in_row : (a b : ℕ) → Arc calls b a → b ≡ i → Contains row a
    in_row a b k e = subst (λ z. Contains z a) (same k.row (sym k.there ∙ (ap (slice_get calls) e ∙ there))) k.holds

empty_row : (n a : ℕ) (row : List ℕ) → slice_get (replicate {A = List ℕ} n []) a ≡ Some row → row ≡ []
empty_row zero a row e = absurd (let f : ⊥ = cc in f)
empty_row (suc n) zero row e = cc
empty_row (suc n) (suc a) row e = empty_row n a row e

pub reversed : (calls turned : List (List ℕ)) (n i : ℕ) → n ≡ length calls → length calls ≤ i → Adds (replicate n []) turned (λ a b. (b < i) × Arc calls b a) → IsReversed calls turned
reversed calls turned n i e h x = record {
  long = x.long ∙ (length-replicate n [] ∙ e);
  there = λ a b l k. x.added b a (subst (λ z. b < z) (sym (length-replicate {A = List ℕ} n [] ∙ e)) l) (omega (arith, h, slice_get_within calls a k.row k.there), k);
  back = λ a b k. elim (x.only b a k) as (λ z. Arc calls a b) [ inl m ↦ absurd (none b a m) | inr m ↦ m.1 ];
} where
  none : (a b : ℕ) → Arc (replicate {A = List ℕ} n []) a b → ⊥
  none a b k = let z : Contains [] b = subst (λ r. Contains r b) (empty_row n a k.row k.there) k.holds in omega (arith, z.1)
