-- The lanes' own arrays after the first few lanes have written.
use Rattle.std.proofs.Common.{◌≡◌, refl, sym, ap, ◌∙◌, subst, ⊎_elim, ℕ, ◌+◌, ◌<◌, ◌≤◌, ◌^◌, Bool, true, false, ◌&&◌, arith, ne_eqb, ◌≢◌, eq-eqb, List, [], ◌∷◌, zero, suc, length, get_or, replicate, add-one, pow_pos, Some, None}
use Rattle.std.specs.Prelude.{nat_eq, if◌then◌else◌, slice_set}
use Rattle.std.proofs.Math.ListN.{length-set}
use Rattle.std.proofs.Math.Path.{fun_ext}
use Rattle.std.proofs.lemmas.Bool.{cases_eq, cases_lt}
use Rattle.std.proofs.lemmas.List.{length-map}
use Rattle.isp_base.specs.declared.types.Elem.{Elem}
use Rattle.isp_base.specs.Cells.{cell_width}
use Rattle.isp_base.specs.Maps.{Lanes, on, map1, each1, holds, lane_of}
use Rattle.isp_base.specs.Rows.{Row}
use Rattle.isp_base.specs.Sets.{Mask}
use Rattle.isp_base.specs.Values.{width}
use Rattle.isp_cells.specs.Cells.{found, left, stored, cleared, row_word, row_with}
use Rattle.isp_store.specs.Held.{bits_of}
use Rattle.isp_store.specs.LaneRows.{rows_as, AreRows}
use Rattle.isp_base.specs.Stores.{own_put}
use Rattle.isp_store.specs.Own.{Own}
use Rattle.isp_cells.proofs.Found.{found_at, length_stored, left_off, zero_found, length_zeros, below_set}
use Rattle.isp_store.proofs.RowLists.{lanes_put}

-- in the first i lanes new, in the others old
pub record Upto (new old now : ℕ → Lanes) (i : ℕ) : Type 0 where
  pub done : (e p : ℕ) → p < i → now e p ≡ new e p
  pub rest : (e p : ℕ) → i ≤ p → now e p ≡ old e p

pub upto_all : (new old now : ℕ → Lanes) (i : ℕ) → Upto new old now i → ((e p : ℕ) → i ≤ p → new e p ≡ old e p) → now ≡ new
upto_all new old now i u past = fun_ext (λ e. fun_ext (λ p. ⊎_elim (λ (h : p < i). u.done e p h) (λ (h : i ≤ p). u.rest e p h ∙ sym (past e p h)) (cases_lt p i)))

pub upto_skip : (new old now : ℕ → Lanes) (i : ℕ) → Upto new old now i → ((e : ℕ) → new e i ≡ old e i) → Upto new old now (i + 1)
upto_skip new old now i u same =
    record {
      done = λ e p h. ⊎_elim (λ (s : p ≡ i). ap (λ k. now e k) s ∙ u.rest e i (omega arith) ∙ sym (same e) ∙ ap (λ k. new e k) (sym s)) (λ ne. u.done e p (omega (arith, h, ne))) (cases_eq p i);
      rest = λ e p h. u.rest e p (omega (arith, h));
    }

-- one lane that is off has no place of its own
pub own_off : (f : ℕ → ℕ) (a : Mask) (x y : Lanes) (old : ℕ → Lanes) (e p : ℕ) → a p ≡ false → own_put (map1 f (on a x)) y old e p ≡ old e p
own_off f a x y old e p off = ap (λ b. if holds (λ i. nat_eq i e) (each1 f (if b then Some (x p) else None)) then y p else old e p) off

pub own_on : (f : ℕ → ℕ) (a : Mask) (x y : Lanes) (old : ℕ → Lanes) (e p : ℕ) → a p ≡ true → own_put (map1 f (on a x)) y old e p ≡ (if nat_eq (f (x p)) e then y p else old e p)
own_on f a x y old e p is = ap (λ b. if holds (λ i. nat_eq i e) (each1 f (if b then Some (x p) else None)) then y p else old e p) is

eq_turned : (a b : ℕ) → nat_eq a b ≡ nat_eq b a
eq_turned a b = ⊎_elim (λ (s : a ≡ b). eq-eqb a b s ∙ sym (eq-eqb b a (sym s))) (λ ne. ne_eqb a b ne ∙ sym (ne_eqb b a (λ s. ne (sym s)))) (cases_eq a b)

-- one lane more has written
pub upto_put : (f : ℕ → ℕ) (a : Mask) (x y : Lanes) (old now after : ℕ → Lanes) (i place v : ℕ) → Upto (own_put (map1 f (on a x)) y old) old now i → a i ≡ true → f (x i) ≡ place → v ≡ y i
    → ((e p : ℕ) → after e p ≡ (if nat_eq e place && nat_eq p i then v else now e p)) → Upto (own_put (map1 f (on a x)) y old) old after (i + 1)
upto_put f a x y old now after i place v u is at val w =
    record {
      done = λ e p h. ⊎_elim (λ (s : p ≡ i). here e p s) (λ ne. w e p ∙ ap (λ b. if b then v else now e p) (ap (λ t. nat_eq e place && t) (ne_eqb p i ne) ∙ and_false (nat_eq e place)) ∙ u.done e p (omega (arith, h, ne))) (cases_eq p i);
      rest = λ e p h. w e p ∙ ap (λ b. if b then v else now e p) (ap (λ t. nat_eq e place && t) (ne_eqb p i (λ s. absurd (omega (arith, h, s)))) ∙ and_false (nat_eq e place)) ∙ u.rest e p (omega (arith, h));
    }
  where
    and_false : (b : Bool) → (b && false) ≡ false
    and_false true = refl
    and_false false = refl

    and_true : (b : Bool) → (b && true) ≡ b
    and_true true = refl
    and_true false = refl

    pick : (b : Bool) (e : ℕ) → (if b then v else now e i) ≡ (if b then y i else old e i)
    pick true e = val
    pick false e = u.rest e i (omega arith)

    at_i : (e : ℕ) → after e i ≡ own_put (map1 f (on a x)) y old e i
    at_i e =
        w e i ∙ ap (λ b. if b then v else now e i) (ap (λ t. nat_eq e place && t) (eq-eqb i i refl) ∙ and_true (nat_eq e place) ∙ eq_turned e place ∙ ap (λ k. nat_eq k e) (sym at))
        ∙ pick (nat_eq (f (x i)) e) e ∙ sym (own_on f a x y old e i is)

    here : (e p : ℕ) → p ≡ i → after e p ≡ own_put (map1 f (on a x)) y old e p
    here e p s = ap (λ k. after e k) s ∙ at_i e ∙ ap (λ k. own_put (map1 f (on a x)) y old e k) (sym s)

-- ---- rows of words

abbrev pub own_in : Elem → List Row → Own
own_in t rs = record { elem = t; rows = rs }

-- one row more is clear
abbrev pub Cleared : Mask → (ℕ → Lanes) → (ℕ → Lanes) → ℕ → Type 0
Cleared a old now i = ((e p : ℕ) → e < i → now e p ≡ (if a p then 0 else old e p)) × ((e p : ℕ) → i ≤ e → now e p ≡ old e p)

pub clear_one : (a : Mask) (old now after : ℕ → Lanes) (i : ℕ) → Cleared a old now i → ((e p : ℕ) → after e p ≡ (if nat_eq e i && a p then 0 else now e p)) → Cleared a old after (i + 1)
clear_one a old now after i u w = (
  λ e p h. ⊎_elim (λ (s : e ≡ i). here e p s) (λ ne. w e p ∙ ap (λ b. if b && a p then 0 else now e p) (ne_eqb e i ne) ∙ u.0 e p (omega (arith, h, ne))) (cases_eq e i),
  λ e p h. w e p ∙ ap (λ b. if b && a p then 0 else now e p) (ne_eqb e i (λ s. absurd (omega (arith, h, s)))) ∙ u.1 e p (omega (arith, h)),
)
  where
    here : (e p : ℕ) → e ≡ i → after e p ≡ (if a p then 0 else old e p)
    here e p s = w e p ∙ ap (λ b. if b && a p then 0 else now e p) (eq-eqb e i s) ∙ ap (λ k. if a p then 0 else k) (u.1 e p (omega (arith, s)))

own_word : (t : Elem) (xss : List (List ℕ)) (e p : ℕ) → bits_of (rows_as t xss) e p ≡ found row_word xss e p
own_word t [] e p = refl
own_word t (xs ∷ xss) zero p = refl
own_word t (xs ∷ xss) (suc e) p = own_word t xss e p

pub own_rows : (t : Elem) (xss : List (List ℕ)) → bits_of (rows_as t xss) ≡ found row_word xss
own_rows t xss = fun_ext (λ e. fun_ext (λ p. own_word t xss e p))

pub rows_long : (t : Elem) (xss : List (List ℕ)) → length (rows_as t xss) ≡ length xss
rows_long t xss = length-map xss (λ (xs : List ℕ). record { elem = t; bits = xs })

-- rows of zeros
zero_word : (n m e p : ℕ) → found row_word (replicate n (replicate m 0)) e p ≡ 0
zero_word zero m e p = refl
zero_word (suc n) m zero p = zero_found m p
zero_word (suc n) m (suc e) p = zero_word n m e p

zero_long : (n m e : ℕ) → e < length {A = List ℕ} (replicate n (replicate m 0)) → length (get_or {A = List ℕ} (replicate n (replicate m 0)) e []) ≡ m
zero_long zero m e h = absurd (omega (arith, h))
zero_long (suc n) m zero h = length_zeros m
zero_long (suc n) m (suc e) h = zero_long n m e (omega (arith, h))

pub zero_rows : (n m : ℕ) → found row_word (replicate n (replicate m 0)) ≡ (λ e p. 0)
zero_rows n m = fun_ext (λ e. fun_ext (λ p. zero_word n m e p))

pub are_zero : (n m w : ℕ) (t : Elem) → w ≡ cell_width t → AreRows m w t (replicate n (replicate m 0))
are_zero n m w t wide = record { wide = wide; long = zero_long n m; fits = λ e p. subst (λ (k : ℕ). k < 2 ^ width t) (sym (zero_word n m e p)) (pow_pos (width t)) }

-- rows in which a lane has left a word
left_long : (b : Bool) (e0 q v : ℕ) (xss : List (List ℕ)) (e : ℕ) → length (get_or (left row_with b e0 q v xss) e []) ≡ length (get_or xss e [])
left_long b e0 q v [] e = refl
left_long false e0 q v (xs ∷ xss) e = refl
left_long true zero q v (xs ∷ xss) zero = length-set xs q v
left_long true zero q v (xs ∷ xss) (suc e) = refl
left_long true (suc e0) q v (xs ∷ xss) zero = refl
left_long true (suc e0) q v (xs ∷ xss) (suc e) = left_long true e0 q v xss e

left_fits : (w : ℕ) (b : Bool) (e0 q v : ℕ) (xss : List (List ℕ)) → v < w → ((e p : ℕ) → found row_word xss e p < w) → (e p : ℕ) → found row_word (left row_with b e0 q v xss) e p < w
left_fits w b e0 q v [] lt f e p = f e p
left_fits w false e0 q v (xs ∷ xss) lt f e p = f e p
left_fits w true zero q v (xs ∷ xss) lt f zero p = below_set w xs q v (f 0) lt p
left_fits w true zero q v (xs ∷ xss) lt f (suc e) p = f (suc e) p
left_fits w true (suc e0) q v (xs ∷ xss) lt f zero p = f 0 p
left_fits w true (suc e0) q v (xs ∷ xss) lt f (suc e) p = left_fits w true e0 q v xss lt (λ d. f (suc d)) e p

left_same : (xss : List (List ℕ)) (e0 q v p : ℕ) → e0 < length xss → found row_word (left row_with true e0 q v xss) e0 p ≡ lane_of (slice_set (get_or xss e0 []) q v) p
left_same [] e0 q v p h = absurd (omega (arith, h))
left_same (xs ∷ xss) zero q v p h = refl
left_same (xs ∷ xss) (suc e0) q v p h = left_same xss e0 q v p (omega (arith, h))

left_other : (xss : List (List ℕ)) (e0 q v e p : ℕ) → e ≢ e0 → found row_word (left row_with true e0 q v xss) e p ≡ found row_word xss e p
left_other [] e0 q v e p ne = refl
left_other (xs ∷ xss) zero q v zero p ne = absurd (ne refl)
left_other (xs ∷ xss) zero q v (suc e) p ne = refl
left_other (xs ∷ xss) (suc e0) q v zero p ne = refl
left_other (xs ∷ xss) (suc e0) q v (suc e) p ne = left_other xss e0 q v e p (λ s. ne (ap suc s))

found_left : (xss : List (List ℕ)) (e0 q v : ℕ) → e0 < length xss → q < length (get_or xss e0 []) → (e p : ℕ) → found row_word (left row_with true e0 q v xss) e p ≡ (if nat_eq e e0 && nat_eq p q then v else found row_word xss e p)
found_left xss e0 q v h low e p = ⊎_elim (λ (s : e ≡ e0). same s) (λ ne. other ne) (cases_eq e e0)
  where
    same : e ≡ e0 → found row_word (left row_with true e0 q v xss) e p ≡ (if nat_eq e e0 && nat_eq p q then v else found row_word xss e p)
    same s =
        ap (λ (k : ℕ). found row_word (left row_with true e0 q v xss) k p) s ∙ left_same xss e0 q v p h ∙ ap (λ (f : Lanes). f p) (lanes_put (get_or xss e0 []) q v low)
        ∙ ap (λ (k : ℕ). if nat_eq p q then v else k) (sym (found_at row_word xss e0 p [] h)) ∙ ap (λ (k : ℕ). if nat_eq p q then v else found row_word xss k p) (sym s)
        ∙ sym (ap (λ b. if b && nat_eq p q then v else found row_word xss e p) (eq-eqb e e0 s))

    other : e ≢ e0 → found row_word (left row_with true e0 q v xss) e p ≡ (if nat_eq e e0 && nat_eq p q then v else found row_word xss e p)
    other ne = left_other xss e0 q v e p ne ∙ sym (ap (λ b. if b && nat_eq p q then v else found row_word xss e p) (ne_eqb e e0 ne))

module _ (a : Mask) (x y : Lanes) where
  stored_long : (k : ℕ) (xss : List (List ℕ)) (e : ℕ) → length (get_or (stored row_with k a x y xss) e []) ≡ length (get_or xss e [])
  stored_long zero xss e = refl
  stored_long (suc k) xss e = left_long (a k) (x k) k (y k) (stored row_with k a x y xss) e ∙ stored_long k xss e

  stored_fits : (w : ℕ) → ((p : ℕ) → y p < w) → (k : ℕ) (xss : List (List ℕ)) → ((e p : ℕ) → found row_word xss e p < w) → (e p : ℕ) → found row_word (stored row_with k a x y xss) e p < w
  stored_fits w lt zero xss f = f
  stored_fits w lt (suc k) xss f = left_fits w (a k) (x k) k (y k) (stored row_with k a x y xss) (lt k) (stored_fits w lt k xss f)

  pub are_stored : (n w : ℕ) (t : Elem) (k : ℕ) (xss : List (List ℕ)) → ((p : ℕ) → y p < 2 ^ width t) → AreRows n w t xss → AreRows n w t (stored row_with k a x y xss)
  are_stored n w t k xss lt rows =
      record {
        wide = rows.wide;
        long = λ e h. stored_long k xss e ∙ rows.long e (subst (λ (m : ℕ). e < m) (length_stored row_with a x k y xss) h);
        fits = stored_fits (2 ^ width t) lt k xss rows.fits;
      }

  -- each lane has left its word in its own part of a row
  module _ (f : ℕ → ℕ) (n : ℕ) (xss : List (List ℕ)) (inside : (p : ℕ) → a p ≡ true → (x p < length xss) × (f (x p) ≡ x p)) (low : (p : ℕ) → a p ≡ true → p < n) (long : (e : ℕ) → e < length xss → length (get_or xss e []) ≡ n) where
    pub upto_stored : (k : ℕ) → Upto (own_put (map1 f (on a x)) y (found row_word xss)) (found row_word xss) (found row_word (stored row_with k a x y xss)) k
    upto_stored zero = record { done = λ e p h. absurd (omega (arith, h)); rest = λ e p h. refl }
    upto_stored (suc k) = by (upto_stored k) (a k) refl
      where
        old : ℕ → Lanes
        old = found row_word xss

        now : List (List ℕ)
        now = stored row_with k a x y xss

        after : List (List ℕ)
        after = stored row_with (suc k) a x y xss

        new : ℕ → Lanes
        new = own_put (map1 f (on a x)) y old

        row_there : a k ≡ true → x k < length now
        row_there is = subst (λ (m : ℕ). x k < m) (sym (length_stored row_with a x k y xss)) (inside k is).0

        lane_there : a k ≡ true → k < length (get_or now (x k) [])
        lane_there is = subst (λ (m : ℕ). k < m) (sym (stored_long k xss (x k) ∙ long (x k) (inside k is).0)) (low k is)

        by : Upto new old (found row_word now) k → (b : Bool) → a k ≡ b → Upto new old (found row_word after) (suc k)
        by so_far true is =
            subst (λ (j : ℕ). Upto new old (found row_word after) j) (add-one k)
            (upto_put f a x y old (found row_word now) (found row_word after) k (x k) (y k) so_far is (inside k is).1 refl
            (λ e p. ap (λ b. found row_word (left row_with b (x k) k (y k) now) e p) is ∙ found_left now (x k) k (y k) (row_there is) (lane_there is) e p))
        by so_far false off =
            subst (λ (g : ℕ → Lanes). Upto new old g (suc k)) (sym (ap (λ b. found row_word (left row_with b (x k) k (y k) now)) off ∙ ap (found row_word) (left_off row_with (x k) k (y k) now)))
            (subst (λ (j : ℕ). Upto new old (found row_word now) j) (add-one k) (upto_skip new old (found row_word now) k so_far (λ e. own_off f a x y old e k off)))

    pub all_stored : ((p : ℕ) → n ≤ p → a p ≡ false) → found row_word (stored row_with n a x y xss) ≡ own_put (map1 f (on a x)) y (found row_word xss)
    all_stored past = upto_all (own_put (map1 f (on a x)) y (found row_word xss)) (found row_word xss) (found row_word (stored row_with n a x y xss)) n (upto_stored n) (λ e p h. own_off f a x y (found row_word xss) e p (past p h))

-- rows with zero in some lanes
module _ (n : ℕ) (a : Mask) where
  pub cleared_count : (k : ℕ) (xss : List (List ℕ)) → length (cleared row_with n a k xss) ≡ length xss
  cleared_count zero xss = refl
  cleared_count (suc k) xss = length_stored row_with a (λ p. k) n (λ p. 0) (cleared row_with n a k xss) ∙ cleared_count k xss

  pub are_cleared : (w : ℕ) (t : Elem) (k : ℕ) (xss : List (List ℕ)) → AreRows n w t xss → AreRows n w t (cleared row_with n a k xss)
  are_cleared w t zero xss rows = rows
  are_cleared w t (suc k) xss rows = are_stored a (λ p. k) (λ p. 0) n w t n (cleared row_with n a k xss) (λ p. pow_pos (width t)) (are_cleared w t k xss rows)

  module _ (low : (p : ℕ) → a p ≡ true → p < n) (past : (p : ℕ) → n ≤ p → a p ≡ false) where
    one_cleared : (i : ℕ) (xss : List (List ℕ)) → i < length xss → ((e : ℕ) → e < length xss → length (get_or xss e []) ≡ n) → (e p : ℕ)
        → found row_word (stored row_with n a (λ q. i) (λ q. 0) xss) e p ≡ (if nat_eq e i && a p then 0 else found row_word xss e p)
    one_cleared i xss h long e p = ap (λ (f : ℕ → Lanes). f e p) (all_stored a (λ q. i) (λ q. 0) (λ k. k) n xss (λ q is. (h, refl)) low long past) ∙ by (a p) refl
      where
        and_false : (b : Bool) → (b && false) ≡ false
        and_false true = refl
        and_false false = refl

        and_true : (b : Bool) → (b && true) ≡ b
        and_true true = refl
        and_true false = refl

        by : (b : Bool) → a p ≡ b → own_put (map1 (λ k. k) (on a (λ q. i))) (λ q. 0) (found row_word xss) e p ≡ (if nat_eq e i && a p then 0 else found row_word xss e p)
        by true is =
            own_on (λ k. k) a (λ q. i) (λ q. 0) (found row_word xss) e p is ∙ ap (λ b. if b then 0 else found row_word xss e p) (eq_turned i e ∙ sym (and_true (nat_eq e i)))
            ∙ ap (λ b. if nat_eq e i && b then 0 else found row_word xss e p) (sym is)
        by false off =
            own_off (λ k. k) a (λ q. i) (λ q. 0) (found row_word xss) e p off ∙ ap (λ b. if b then 0 else found row_word xss e p) (sym (and_false (nat_eq e i)))
            ∙ ap (λ b. if nat_eq e i && b then 0 else found row_word xss e p) (sym off)

    cleared_upto : (w : ℕ) (t : Elem) (k : ℕ) (xss : List (List ℕ)) → k ≤ length xss → AreRows n w t xss → Cleared a (found row_word xss) (found row_word (cleared row_with n a k xss)) k
    cleared_upto w t zero xss h rows = (λ e p l. absurd (omega (arith, l)), λ e p l. refl)
    cleared_upto w t (suc k) xss h rows =
        let now = cleared row_with n a k xss in
        subst (λ (j : ℕ). Cleared a (found row_word xss) (found row_word (cleared row_with n a (suc k) xss)) j) (add-one k)
        (clear_one a (found row_word xss) (found row_word now) (found row_word (cleared row_with n a (suc k) xss)) k (cleared_upto w t k xss (omega (arith, h)) rows)
        (one_cleared k now (omega (arith, h, cleared_count k xss)) (are_cleared w t k xss rows).long))

    past_rows : (xss : List (List ℕ)) (e p : ℕ) → length xss ≤ e → found row_word xss e p ≡ 0
    past_rows [] e p h = refl
    past_rows (xs ∷ xss) zero p h = absurd (omega (arith, h))
    past_rows (xs ∷ xss) (suc e) p h = past_rows xss e p (omega (arith, h))

    pub all_cleared : (w : ℕ) (t : Elem) (xss : List (List ℕ)) → AreRows n w t xss → found row_word (cleared row_with n a (length xss) xss) ≡ (λ e p. if a p then 0 else found row_word xss e p)
    all_cleared w t xss rows =
        let u = cleared_upto w t (length xss) xss (omega arith) rows in
        fun_ext (λ e. fun_ext (λ p. ⊎_elim (λ (h : e < length xss). u.0 e p h) (λ (h : length xss ≤ e). u.1 e p h ∙ past_rows xss e p h ∙ sym (zero_either (a p) (past_rows xss e p h))) (cases_lt e (length xss))))
      where
        zero_either : {k : ℕ} → (b : Bool) → k ≡ 0 → (if b then 0 else k) ≡ 0
        zero_either true e = refl
        zero_either false e = e
