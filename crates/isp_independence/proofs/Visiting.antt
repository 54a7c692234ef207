-- Visits of numbers: one after another, and from each that waits.
use Rattle.std.proofs.Common.{◌≡◌, ◌≢◌, ℕ, zero, suc, ◌<◌, ◌⊎◌, inl, inr, refl, sym, ap, subst, ◌∙◌, arith, set, length-set, length-append}
use Rattle.std.specs.Prelude.{List, [], ◌∷◌, ◌++◌, Option, Some, None, Contains, length}
use Rattle.std.proofs.lemmas.Bool.{cases_eq, cases_lt}
use Rattle.std.proofs.lemmas.Option.{slice_get_past, slice_get_within}
use Rattle.std.proofs.lemmas.List.Elements.{Contains-append_left, Contains-append_right, Contains-append_cases, Contains-push, Contains-push_cases}
use Rattle.isp_independence.specs.reader.Paths.{Arc, row_at, Path, stays, flat, found_at, IsFound, IsReversed}
use Rattle.isp_independence.specs.reader.Visits.{without, Visits, IsClosed, Spreads}
use Rattle.isp_independence.proofs.Arcs.{before, row_arc, arc_row}

pub nothing_in : {X : Type 0} (x : X) → Contains [] x → ⊥
nothing_in x h = omega (arith, h.1)

pub only_one : {X : Type 0} (y x : X) → Contains (y ∷ []) x → y ≡ x
only_one y x h = elim (Contains-push_cases [] y x h) as (λ z. y ≡ x) [ inl a ↦ absurd (nothing_in x a) | inr e ↦ e ]

module _ {D : Type 0} where
  found_set : (xs : List (Option D)) (f : ℕ) (o : Option D) → f < length xs → found_at (set xs f o) f ≡ o
  found_set [] f o h = absurd (omega (arith, h))
  found_set (x ∷ xs) zero o h = refl
  found_set (x ∷ xs) (suc f) o h = found_set xs f o (omega (arith, h))

  found_aside : (xs : List (Option D)) (f g : ℕ) (o : Option D) → g ≢ f → found_at (set xs f o) g ≡ found_at xs g
  found_aside [] f g o n = refl
  found_aside (x ∷ xs) zero zero o n = absurd (n refl)
  found_aside (x ∷ xs) zero (suc g) o n = refl
  found_aside (x ∷ xs) (suc f) zero o n = refl
  found_aside (x ∷ xs) (suc f) (suc g) o n = found_aside xs f g o (λ e. n (ap suc e))

  without_set : (xs : List (Option D)) (f : ℕ) (d : D) → f < length xs → found_at xs f ≡ None → suc (without (set xs f (Some d))) ≡ without xs
  without_set [] f d h e = absurd (omega (arith, h))
  without_set (None ∷ xs) zero d h e = refl
  without_set (Some x ∷ xs) zero d h e = absurd (let no : ⊥ = cc in no)
  without_set (None ∷ xs) (suc f) d h e = ap suc (without_set xs f d (omega (arith, h)) e)
  without_set (Some x ∷ xs) (suc f) d h e = without_set xs f d (omega (arith, h)) e

  pub found_within : (xs : List (Option D)) (f : ℕ) → IsFound xs f → f < length xs
  found_within xs f h = elim (cases_lt f (length xs)) as (λ z. f < length xs) [ inl a ↦ a | inr b ↦ absurd (let e = ap flat (slice_get_past xs f b) in let i = h.is in let no : ⊥ = cc in no) ]

  pub visits_none : (d : D) (old : List (Option D)) (w : List ℕ) → Visits [] d old old w w
  visits_none d old w = record {
    long = refl;
    work = refl;
    kept = λ f e h. h;
    fresh = λ f e h. inl h;
    all = λ f h l. absurd (nothing_in f h);
    waits = λ f h. h;
    waited = λ f h. inl h;
  }

  -- one of which something is known, or that is none
  pub visits_had : (n : ℕ) (d : D) (old : List (Option D)) (w : List ℕ) → (n < length old → IsFound old n) → Visits (n ∷ []) d old old w w
  visits_had n d old w is = record {
    long = refl;
    work = refl;
    kept = λ f e h. h;
    fresh = λ f e h. inl h;
    all = λ f h l. subst (λ k. IsFound old k) (only_one n f h) (is (subst (λ k. k < length old) (sym (only_one n f h)) l));
    waits = λ f h. h;
    waited = λ f h. inl h;
  }

  pub visits_new : (n : ℕ) (d : D) (old : List (Option D)) (w : List ℕ) → n < length old → found_at old n ≡ None → Visits (n ∷ []) d old (set old n (Some d)) w (w ++ n ∷ [])
  visits_new n d old w h e = record {
    long = length-set old n (Some d);
    work = omega (arith, without_set old n d h e, length-append w (n ∷ []));
    kept = λ f x k. kept f x k (cases_eq f n);
    fresh = λ f x k. fresh f x k (cases_eq f n);
    all = λ f k l. subst (λ j. IsFound (set old n (Some d)) j) (only_one n f k) (record { what = d; is = found_set old n (Some d) h });
    waits = λ f k. Contains-append_left w (n ∷ []) f k;
    waited = λ f k. elim (Contains-append_cases w (n ∷ []) f k) as (λ z. Contains w f ⊎ Contains (n ∷ []) f) [ inl a ↦ inl a | inr b ↦ inr b ];
  } where
    kept : (f : ℕ) (x : D) → found_at old f ≡ Some x → (f ≡ n) ⊎ (f ≢ n) → found_at (set old n (Some d)) f ≡ Some x
    kept f x k (inl q) = absurd (let r : found_at old f ≡ None = subst (λ j. found_at old j ≡ None) (sym q) e in let no : ⊥ = cc in no)
    kept f x k (inr q) = found_aside old n f (Some d) q ∙ k

    same : (f : ℕ) (x : D) → found_at (set old n (Some d)) f ≡ Some x → f ≡ n → x ≡ d
    same f x k q =
        let r : found_at (set old n (Some d)) f ≡ Some d = subst (λ j. found_at (set old n (Some d)) j ≡ Some d) (sym q) (found_set old n (Some d) h) in
        let s : Some x ≡ Some d = sym k ∙ r in cc

    fresh : (f : ℕ) (x : D) → found_at (set old n (Some d)) f ≡ Some x → (f ≡ n) ⊎ (f ≢ n) → (found_at old f ≡ Some x) ⊎ ((x ≡ d) × Contains (n ∷ []) f × Contains (w ++ n ∷ []) f)
    fresh f x k (inl q) = inr (same f x k q, subst (λ j. Contains (n ∷ []) j) (sym q) (Contains-push [] n), subst (λ j. Contains (w ++ n ∷ []) j) (sym q) (Contains-push w n))
    fresh f x k (inr q) = inl (sym (found_aside old n f (Some d) q) ∙ k)

  pub visits_then : (xs ys : List ℕ) (d : D) (a b c : List (Option D)) (u v w : List ℕ) → Visits xs d a b u v → Visits ys d b c v w → Visits (xs ++ ys) d a c u w
  visits_then xs ys d a b c u v w x y = record {
    long = y.long ∙ x.long;
    work = y.work ∙ x.work;
    kept = λ f e h. y.kept f e (x.kept f e h);
    fresh = λ f e h. elim (y.fresh f e h) as (λ z. (found_at a f ≡ Some e) ⊎ ((e ≡ d) × Contains (xs ++ ys) f × Contains w f)) [
      | inl k ↦ elim (x.fresh f e k) as (λ z. (found_at a f ≡ Some e) ⊎ ((e ≡ d) × Contains (xs ++ ys) f × Contains w f)) [
        | inl m ↦ inl m
        | inr m ↦ inr (m.0, Contains-append_left xs ys f m.1, y.waits f m.2)
      ]
      | inr k ↦ inr (k.0, Contains-append_right xs ys f k.1, k.2)
    ];
    all = λ f h l. elim (Contains-append_cases xs ys f h) as (λ z. IsFound c f) [
      | inl k ↦ let m = x.all f k l in record { what = m.what; is = y.kept f m.what m.is }
      | inr k ↦ y.all f k (subst (λ j. f < j) (sym x.long) l)
    ];
    waits = λ f h. y.waits f (x.waits f h);
    waited = λ f h. elim (y.waited f h) as (λ z. Contains u f ⊎ Contains (xs ++ ys) f) [
      | inl k ↦ elim (x.waited f k) as (λ z. Contains u f ⊎ Contains (xs ++ ys) f) [ inl m ↦ inl m | inr m ↦ inr (Contains-append_left xs ys f m) ]
      | inr k ↦ inr (Contains-append_right xs ys f k)
    ];
  }

  -- while some wait from which there are visits to come
  pub record Spreading (table : List (List ℕ)) (h : ℕ) (d : D) (old now : List (Option D)) (waiting : List ℕ) : Type 0 where
    pub long : length now ≡ length old
    pub kept : (f : ℕ) (e : D) → found_at old f ≡ Some e → found_at now f ≡ Some e
    pub fresh : (f : ℕ) (e : D) → found_at now f ≡ Some e → (found_at old f ≡ Some e) ⊎ ((e ≡ d) × Path table f h)
    pub leads : (f : ℕ) → Contains waiting f → Path table f h
    pub here : h < length old → IsFound now h
    pub closed : IsClosed table old → (f g : ℕ) → IsFound now f → Arc table g f → Contains waiting f ⊎ IsFound now g

  pub found_more : (a b : List (Option D)) (f : ℕ) → ((f : ℕ) (e : D) → found_at a f ≡ Some e → found_at b f ≡ Some e) → IsFound a f → IsFound b f
  found_more a b f k h = record { what = h.what; is = k f h.what h.is }

  pub spreading_begins : (table : List (List ℕ)) (h : ℕ) (d : D) (old now : List (Option D)) (waiting : List ℕ) → Visits (h ∷ []) d old now [] waiting → Spreading table h d old now waiting
  spreading_begins table h d old now waiting v = record {
    long = v.long;
    kept = v.kept;
    fresh = λ f e k. elim (v.fresh f e k) as (λ z. (found_at old f ≡ Some e) ⊎ ((e ≡ d) × Path table f h)) [ inl m ↦ inl m | inr m ↦ inr (m.0, at f m.1) ];
    leads = λ f k. elim (v.waited f k) as (λ z. Path table f h) [ inl m ↦ absurd (nothing_in f m) | inr m ↦ at f m ];
    here = λ l. v.all h (Contains-push [] h) l;
    closed = λ c f g k a. elim (v.fresh f k.what k.is) as (λ z. Contains waiting f ⊎ IsFound now g) [
      | inl m ↦ inr (found_more old now g v.kept (c.callers f g (record { what = k.what; is = m }) a))
      | inr m ↦ inl m.2
    ];
  } where
    at : (f : ℕ) → Contains (h ∷ []) f → Path table f h
    at f m = subst (λ j. Path table f j) (sym (only_one h f m)) stays

  pub spreading_on : (table turned : List (List ℕ)) (h : ℕ) (d : D) (old now next : List (Option D)) (left after : List ℕ) (n : ℕ) → IsReversed table turned → length old ≡ length table
      → Spreading table h d old now (left ++ n ∷ []) → Visits (row_at turned n) d now next left after → Spreading table h d old next after
  spreading_on table turned h d old now next left after n t size s v = record {
    long = v.long ∙ s.long;
    kept = λ f e k. v.kept f e (s.kept f e k);
    fresh = λ f e k. elim (v.fresh f e k) as (λ z. (found_at old f ≡ Some e) ⊎ ((e ≡ d) × Path table f h)) [
      | inl m ↦ s.fresh f e m
      | inr m ↦ inr (m.0, by_row f m.1)
    ];
    leads = λ f k. elim (v.waited f k) as (λ z. Path table f h) [ inl m ↦ s.leads f (Contains-append_left left (n ∷ []) f m) | inr m ↦ by_row f m ];
    here = λ l. found_more now next h v.kept (s.here l);
    closed = λ c f g k a. elim (v.fresh f k.what k.is) as (λ z. Contains after f ⊎ IsFound next g) [
      | inl m ↦ elim (s.closed c f g (record { what = k.what; is = m }) a) as (λ z. Contains after f ⊎ IsFound next g) [
        | inl w ↦ elim (Contains-push_cases left n f w) as (λ z. Contains after f ⊎ IsFound next g) [
          | inl x ↦ inl (v.waits f x)
          | inr e ↦ inr (called g (subst (λ j. IsFound now j) (sym e) (record { what = k.what; is = m })) (subst (λ j. Arc table g j) (sym e) a))
        ]
        | inr w ↦ inr (found_more now next g v.kept w)
      ]
      | inr m ↦ inl m.2
    ];
  } where
    by_row : (f : ℕ) → Contains (row_at turned n) f → Path table f h
    by_row f m = before table f n h (t.back f n (row_arc turned n f m)) (s.leads n (Contains-push left n))

    called : (g : ℕ) → IsFound now n → Arc table g n → IsFound next g
    called g k a =
        v.all g (arc_row turned n g (t.there g n (omega (arith, found_within now n k, s.long, size)) a))
        (omega (arith, s.long, size, slice_get_within table g a.row a.there))

  pub spreading_ends : (table : List (List ℕ)) (h : ℕ) (d : D) (old now : List (Option D)) → Spreading table h d old now [] → Spreads table h d old now
  spreading_ends table h d old now s = record {
    long = s.long;
    kept = s.kept;
    fresh = λ f e k. elim (s.fresh f e k) as (λ z. (found_at old f ≡ Some e) ⊎ ((e ≡ d) × (found_at old f ≡ None) × Path table f h)) [
      | inl m ↦ inl m
      | inr m ↦ cases f e k m (found_at old f) refl
    ];
    here = s.here;
    closed = λ c. record { callers = λ f g k a. elim (s.closed c f g k a) as (λ z. IsFound now g) [ inl w ↦ absurd (nothing_in f w) | inr w ↦ w ] };
  } where
    cases : (f : ℕ) (e : D) → found_at now f ≡ Some e → (e ≡ d) × Path table f h → (o : Option D) → found_at old f ≡ o → (found_at old f ≡ Some e) ⊎ ((e ≡ d) × (found_at old f ≡ None) × Path table f h)
    cases f e k m None i = inr (m.0, i, m.1)
    cases f e k m (Some x) i = inl (i ∙ (sym (s.kept f x i) ∙ k))
