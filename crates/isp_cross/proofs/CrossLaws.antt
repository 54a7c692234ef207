-- The least and the greatest of the values, and lanes that are moved to and fro.
use Rattle.std.proofs.Common.{◌≡◌, refl, sym, ap, ◌∙◌, subst, ⊎_elim, ℕ, zero, suc, ◌+◌, ◌*◌, ◌/◌, ◌%◌, ◌^◌, ◌<◌, Bool, true, false, cond, int_lt, ◌≤ℤ◌, ℤ, pos, ◌+ℤ◌, unsigned_abs, Option, Some, None, arith, mod-eq_of_lt, lt-ltb}
use Rattle.std.proofs.lemmas.Int.{ints, int_rem_euclid_is}
use Rattle.std.proofs.lemmas.Nat.{div-add-mod'}
use Rattle.std.proofs.lemmas.Bool.{cases_eq}
use native.Mathlib.Nat.{add-mul-mod_self_right}
use mathlib.Core.Logic.{◌⊎◌, inl, inr}
use Rattle.isp_base.specs.Cross.{and_this, best, fold_below, instance, or_zero, reduce_best, rotate, shift, within}
use Rattle.isp_base.specs.Maps.{Map}
use Rattle.isp_base.specs.Values.{width, number, op_bits}
use Rattle.isp_base.specs.declared.operators.BinOp.TheVariants.{Min, Max}
use Rattle.isp_base.specs.declared.types.Elem.{Elem}
use Rattle.isp_base.proofs.Words.{word_less, word_max, word_min}
use Rattle.isp_cross.specs.Laws.{AllFit, IsBest, IsGreatest, IsLeast, IsThere}
use Rattle.isp_cross.proofs.Places.{lifted}

-- ---- the best value

-- r is the one of a and b that is as good as the other
abbrev Picks : (ℕ → ℕ → Type 0) → ℕ → ℕ → ℕ → Type 0
Picks good r a b = ((r ≡ a) × good a b) ⊎ ((r ≡ b) × good b a)

module _ (good : ℕ → ℕ → Type 0) (same_good : (a : ℕ) → good a a) (joined : (a b c : ℕ) → good a b → good b c → good a c) (fits : ℕ → Type 0)
    (f : ℕ → ℕ → ℕ) (picks : (a b : ℕ) → fits a → fits b → Picks good (f a b) a b) (x : Map) (all_fit : (p b : ℕ) → x p ≡ Some b → fits b) where
  -- the best of the first n, if there is one
  abbrev SoFar : ℕ → Option ℕ → Type 0
  SoFar n None = (p : ℕ) → p < n → x p ≡ None
  SoFar n (Some r) = IsBest good n x r

  later : (n b : ℕ) → IsThere n x b → IsThere (suc n) x b
  later n b i = record { at = i.at; below = omega (arith, i.below); is = i.is }

  -- the value of the instance n, or of a lower one
  either : (n c : ℕ) {P : Type 0} → IsThere (suc n) x c → (x n ≡ Some c → P) → (IsThere n x c → P) → P
  either n c i here lower = ⊎_elim (λ s. here (ap x (sym s) ∙ i.is)) (λ ne. lower (record { at = i.at; below = omega (arith, i.below, ne); is = i.is })) (cases_eq i.at n)

  step : (n : ℕ) (o v : Option ℕ) → x n ≡ v → SoFar n o → SoFar (suc n) (and_this (best f) o v)
  step n None None e h = λ p l. ⊎_elim (λ s. ap x s ∙ e) (λ ne. h p (omega (arith, l, ne))) (cases_eq p n)
  step n None (Some b) e h = record {
    there = record { at = n; below = omega arith; is = e };
    best = λ c i. either n c i (λ k. subst (good b) (ap or_zero (sym e ∙ k)) (same_good b)) (λ l. absurd (let none = h l.at l.below in let some = l.is in cc));
  }
  step n (Some a) None e h = record {
    there = later n a h.there;
    best = λ c i. either n c i (λ k. absurd (cc)) (h.best c);
  }
  step n (Some a) (Some b) e h = ⊎_elim keeps takes (picks a b (all_fit h.there.at a h.there.is) (all_fit n b e))
    where
      keeps : (f a b ≡ a) × good a b → IsBest good (suc n) x (f a b)
      keeps k = subst (IsBest good (suc n) x) (sym k.0) (record {
        there = later n a h.there;
        best = λ c i. either n c i (λ s. subst (good a) (ap or_zero (sym e ∙ s)) k.1) (h.best c);
      })

      takes : (f a b ≡ b) × good b a → IsBest good (suc n) x (f a b)
      takes k = subst (IsBest good (suc n) x) (sym k.0) (record {
        there = record { at = n; below = omega arith; is = e };
        best = λ c i. either n c i (λ s. subst (good b) (ap or_zero (sym e ∙ s)) (same_good b)) (λ l. joined b a c k.1 (h.best c l));
      })

  so_far : (n : ℕ) → SoFar n (fold_below (best f) None x n)
  so_far zero = λ p l. absurd (omega (arith, l))
  so_far (suc n) = step n (fold_below (best f) None x n) (x n) refl (so_far n)

  found : (n b : ℕ) (o : Option ℕ) → SoFar n o → IsThere n x b → IsBest good n x (or_zero o)
  found n b None h i = absurd (let none = h i.at i.below in let some = i.is in cc)
  found n b (Some r) h i = h

  pub best_is : (n b : ℕ) → IsThere n x b → IsBest good n x (or_zero (fold_below (best f) None x n))
  best_is n b i = found n b (fold_below (best f) None x n) (so_far n) i

least_picks : (t : Elem) (a b : ℕ) → a < 2 ^ width t → b < 2 ^ width t → Picks (λ r s. number t r ≤ℤ number t s) (op_bits Min t a b) a b
least_picks t a b p q = by (int_lt (number t b) (number t a)) (sym (word_min t a b p q) ∙ ap (λ s. cond s b a) (word_less t b a q p)) refl
  where
    by : (s : Bool) → op_bits Min t a b ≡ cond s b a → int_lt (number t b) (number t a) ≡ s → Picks (λ r s. number t r ≤ℤ number t s) (op_bits Min t a b) a b
    by true is e = inr (is, omega (arith, ints, e))
    by false is e = inl (is, omega (arith, ints, e))

greatest_picks : (t : Elem) (a b : ℕ) → a < 2 ^ width t → b < 2 ^ width t → Picks (λ r s. number t s ≤ℤ number t r) (op_bits Max t a b) a b
greatest_picks t a b p q = by (int_lt (number t b) (number t a)) (sym (word_max t a b p q) ∙ ap (λ s. cond s a b) (word_less t b a q p)) refl
  where
    by : (s : Bool) → op_bits Max t a b ≡ cond s a b → int_lt (number t b) (number t a) ≡ s → Picks (λ r s. number t s ≤ℤ number t r) (op_bits Max t a b) a b
    by true is e = inl (is, omega (arith, ints, e))
    by false is e = inr (is, omega (arith, ints, e))

below_itself : (z : ℤ) → z ≤ℤ z
below_itself z = omega (arith, ints)

below_both : (u v w : ℤ) → u ≤ℤ v → v ≤ℤ w → u ≤ℤ w
below_both u v w h k = omega (arith, ints, h, k)

pub least_is : (t : Elem) (n b : ℕ) (x : Map) → AllFit t x → IsThere n x b → IsLeast t n x (reduce_best Min t n x)
least_is t n b x fits i =
    best_is (λ r s. number t r ≤ℤ number t s) (λ a. below_itself (number t a)) (λ a b c h k. below_both (number t a) (number t b) (number t c) h k) (λ a. a < 2 ^ width t) (op_bits Min t) (least_picks t) x fits n b i

pub greatest_is : (t : Elem) (n b : ℕ) (x : Map) → AllFit t x → IsThere n x b → IsGreatest t n x (reduce_best Max t n x)
greatest_is t n b x fits i =
    best_is (λ r s. number t s ≤ℤ number t r) (λ a. below_itself (number t a)) (λ a b c h k. below_both (number t c) (number t b) (number t a) k h) (λ a. a < 2 ^ width t) (op_bits Max t) (greatest_picks t) x fits n b i

-- ---- lanes that are moved

-- the instance of a number that is there
instance_of : (n m : ℕ) → m < n → instance n (pos m) ≡ m
instance_of n m h =
    ap unsigned_abs (int_rem_euclid_is (pos m) (pos n) n 0 m (omega (arith, h)) refl (omega (arith, ints))) ∙ mod-eq_of_lt h

pub there_and_back : (n p : ℕ) (k j : ℤ) → p < n → j +ℤ k ≡ pos 0 → instance n (pos (instance n (pos p +ℤ j)) +ℤ k) ≡ p
there_and_back n p k j h e =
    let some : 0 < n = omega (arith, h) in
    let l = lifted n (pos p +ℤ j) some in
    let q = l.rest / n in
    let moved : instance n (pos p +ℤ j) ≡ l.rest % n = ap unsigned_abs (int_rem_euclid_is (pos p +ℤ j) (pos n) n l.turns l.rest some refl l.is) in
    let split : q * n + l.rest % n ≡ l.rest = div-add-mod' l.rest n in
    let back : pos (l.rest % n) +ℤ k +ℤ pos (q * n) ≡ pos (p + l.turns * n) = omega (arith, ints, split, l.is, e) in
    ap (λ (i : ℕ). instance n (pos i +ℤ k)) moved
    ∙ ap unsigned_abs (int_rem_euclid_is (pos (l.rest % n) +ℤ k) (pos n) n q (p + l.turns * n) some refl back)
    ∙ add-mul-mod_self_right p l.turns n
    ∙ mod-eq_of_lt h

pub rotated_back : (n p : ℕ) (x : Map) (k j : ℤ) → p < n → j +ℤ k ≡ pos 0 → rotate n (λ q. Some (rotate n x k q)) j p ≡ or_zero (x p)
rotated_back n p x k j h e = ap (λ q. or_zero (x q)) (there_and_back n p k j h e)

pub shifted_inside : (n p m : ℕ) (x : Map) (k : ℤ) → pos p +ℤ k ≡ pos m → m < n → shift n x k p ≡ rotate n x k p
shifted_inside n p m x k e h =
    ap (within n x) e
    ∙ ap (λ b. cond b (or_zero (x m)) 0) (lt-ltb m n h)
    ∙ sym (ap (λ z. or_zero (x (instance n z))) e ∙ ap (λ q. or_zero (x q)) (instance_of n m h))
