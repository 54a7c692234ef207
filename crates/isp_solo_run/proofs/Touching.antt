-- What is marked as touched by several, one of whom stored, is where two instances clash.
use Rattle.std.proofs.Common.{◌≡◌, refl, sym, ap, ap₂, subst, ◌∙◌, ℕ, zero, suc, ◌+◌, ◌<◌, ◌≤◌, ◌⊎◌, inl, inr, ⊎_elim, Bool, true, false, List, arith, length, get_or}
use Rattle.std.specs.Prelude.{is_some, slice_set}
use Rattle.std.proofs.lemmas.Bool.{cases_eq, true≢false, false≢true}
use Rattle.isp_base.specs.Maps.{put}
use Rattle.isp_solo_meaning.specs.Answers.{Answer, reached}
use Rattle.isp_solo_meaning.specs.Touched.{Clash}
use Rattle.isp_gang_values.proofs.Vectors.{at_there, written}
use Rattle.isp_solo_run.specs.Touches.{joined, touched, touched_by, is_clash, ClashesAreFound, touch_in}
use Rattle.isp_solo_run.specs.declared.touches.Touch.{Touch}
use Rattle.isp_solo_run.specs.declared.touches.Touch.TheVariants.{Nobody, One, Several}
use Rattle.isp_solo_run.proofs.Changed.{put_there, put_apart}

module _ (run : ℕ → Answer ℕ) (b e : ℕ) where
  abbrev reads : ℕ → Bool
  reads p = (reached (run p)).read b e

  abbrev stores : ℕ → Bool
  stores p = is_some ((reached (run p)).wrote b e)

  abbrev Touching : ℕ → Type 0
  Touching p = (reads p ≡ true) ⊎ (stores p ≡ true)

  record Off (p : ℕ) : Type 0 where
    pub read : reads p ≡ false
    pub stored : stores p ≡ false

  false_true : (x : Bool) → x ≡ false → x ≡ true → ⊥
  false_true true f t = absurd (true≢false f)
  false_true false f t = absurd (false≢true t)

  off_touches : (p : ℕ) → Off p → Touching p → ⊥
  off_touches p o (inl t) = false_true (reads p) o.read t
  off_touches p o (inr t) = false_true (stores p) o.stored t

  record Sole (n q : ℕ) (stored : Bool) : Type 0 where
    pub below : q < n
    pub touches : Touching q
    pub stores_is : stores q ≡ stored
    pub others : (p : ℕ) → p < n → (p ≡ q → ⊥) → Off p

  record Readers (n : ℕ) : Type 0 where
    pub some : ℕ
    pub below : some < n
    pub touches : Touching some
    pub none : (p : ℕ) → p < n → stores p ≡ false

  -- what a touch says of the first n instances
  abbrev Known : ℕ → Touch → Type 0
  Known n Nobody = (p : ℕ) → p < n → Off p
  Known n (One q stored) = Sole n q stored
  Known n (Several true) = Clash n run b e
  Known n (Several false) = Readers n

  wider : (n : ℕ) → Clash n run b e → Clash (suc n) run b e
  wider n c = record { writer = c.writer; other = c.other; writer_is = (let h = c.writer_is in omega (arith, h)); other_is = (let h = c.other_is in omega (arith, h)); two = c.two; writes = c.writes; touches = c.touches }

  one_more : {A : Type 0} (n p : ℕ) → p < suc n → (p < n → A) → (p ≡ n → A) → A
  one_more n p h before last = ⊎_elim (λ (i : p ≡ n). last i) (λ ne. before (omega (arith, h, ne))) (cases_eq p n)

  -- instance n did not touch it
  passed : (n : ℕ) → Off n → (t : Touch) → Known n t → Known (suc n) t
  passed n o Nobody k = λ p h. one_more n p h (k p) (λ i. subst Off (sym i) o)
  passed n o (One q stored) k = record { below = (let h = k.below in omega (arith, h)); touches = k.touches; stores_is = k.stores_is; others = λ p h ne. one_more n p h (λ l. k.others p l ne) (λ i. subst Off (sym i) o) }
  passed n o (Several true) k = wider n k
  passed n o (Several false) k = record { some = k.some; below = (let h = k.below in omega (arith, h)); touches = k.touches; none = λ p h. one_more n p h (k.none p) (λ i. subst (λ z. stores z ≡ false) (sym i) o.stored) }

  -- two are known to touch it, and one of them stores there
  clash_of : (n p q : ℕ) → p < n → q < n → (p ≡ q → ⊥) → stores p ≡ true → Touching q → Clash n run b e
  clash_of n p q l k two w t = record { writer = p; other = q; writer_is = l; other_is = k; two = two; writes = w; touches = t }

  -- instance n touched it
  met : (n : ℕ) (w : Bool) → stores n ≡ w → Touching n → (t : Touch) → Known n t → Known (suc n) (joined t n w)
  met n w is touch Nobody k = record { below = omega arith; touches = touch; stores_is = is; others = λ p h ne. one_more n p h (λ l. k p l) (λ i. absurd (ne i)) }
  met n w is touch (One q true) k =
      clash_of (suc n) q n (let h = k.below in omega (arith, h)) (omega arith) (λ i. (let h = k.below in omega (arith, h, i))) k.stores_is touch
  met n true is touch (One q false) k =
      clash_of (suc n) n q (omega arith) (let h = k.below in omega (arith, h)) (λ i. (let h = k.below in omega (arith, h, i))) is k.touches
  met n false is touch (One q false) k =
      record {
        some = n;
        below = omega arith;
        touches = touch;
        none = λ p h. one_more n p h
            (λ l. ⊎_elim (λ (i : p ≡ q). subst (λ z. stores z ≡ false) (sym i) k.stores_is) (λ ne. (k.others p l ne).stored) (cases_eq p q))
            (λ i. subst (λ z. stores z ≡ false) (sym i) is);
      }
  met n w is touch (Several true) k = wider n k
  met n true is touch (Several false) k =
      clash_of (suc n) n k.some (omega arith) (let h = k.below in omega (arith, h)) (λ i. (let h = k.below in omega (arith, h, i))) is k.touches
  met n false is touch (Several false) k =
      record { some = n; below = omega arith; touches = touch; none = λ p h. one_more n p h (k.none p) (λ i. subst (λ z. stores z ≡ false) (sym i) is) }

  step : (n : ℕ) (t : Touch) (r w : Bool) → reads n ≡ r → stores n ≡ w → Known n t → Known (suc n) (touched t n r w)
  step n t false false ri wi k = passed n (record { read = ri; stored = wi }) t k
  step n t true false ri wi k = met n false wi (inl ri) t k
  step n t false true ri wi k = met n true wi (inr wi) t k
  step n t true true ri wi k = met n true wi (inr wi) t k

  known : (n : ℕ) → Known n (touched_by run n b e)
  known zero = λ p h. absurd (omega (arith, h))
  known (suc n) = step n (touched_by run n b e) (reads n) (stores n) refl refl (known n)

  found : (n : ℕ) (t : Touch) → Known n t → is_clash t ≡ true → Clash n run b e
  found n Nobody k h = absurd (false_true false refl h)
  found n (One q stored) k h = absurd (false_true false refl h)
  found n (Several true) k h = k
  found n (Several false) k h = absurd (false_true false refl h)

  seen : (n : ℕ) (t : Touch) → Known n t → Clash n run b e → is_clash t ≡ true
  seen n Nobody k c = absurd (off_touches c.writer (k c.writer c.writer_is) (inr c.writes))
  seen n (One q stored) k c =
      absurd (⊎_elim (λ (i : c.writer ≡ q). off_touches c.other (k.others c.other c.other_is (λ j. c.two (i ∙ sym j))) c.touches)
      (λ ne. off_touches c.writer (k.others c.writer c.writer_is ne) (inr c.writes)) (cases_eq c.writer q))
  seen n (Several true) k c = refl
  seen n (Several false) k c = absurd (false_true (stores c.writer) (k.none c.writer c.writer_is) c.writes)

pub clashes_are_found : ClashesAreFound
clashes_are_found run gang b e = (found run b e gang (touched_by run gang b e) (known run b e gang), seen run b e gang (touched_by run gang b e) (known run b e gang))

-- ---- the elements of an array, one after the other

pub record Joined (f : Touch → ℕ → Touch) (old xs : List Touch) (i : ℕ) : Type 0 where
  pub done : (e : ℕ) → e < i → touch_in xs e ≡ f (touch_in old e) e
  pub left : (e : ℕ) → i ≤ e → touch_in xs e ≡ touch_in old e

pub joined_none : (f : Touch → ℕ → Touch) (old : List Touch) → Joined f old old 0
joined_none f old = record { done = λ e h. absurd (omega (arith, h)); left = λ e h. refl }

pub joined_next : (f : Touch → ℕ → Touch) (old xs : List Touch) (i : ℕ) (t d : Touch) → Joined f old xs i → i < length xs → t ≡ f (get_or xs i d) i → Joined f old (slice_set xs i t) (i + 1)
joined_next f old xs i t d j lt is =
    let w = written (λ t. t) Nobody xs t i lt in
    record {
      done = λ e h. ap (λ g. g e) w
          ∙ ⊎_elim (λ (k : e ≡ i). ap (put (touch_in xs) i t) k ∙ put_there (touch_in xs) i t ∙ is ∙ ap (λ z. f z i) (sym (at_there (λ t. t) Nobody xs i d lt) ∙ j.left i (omega arith)) ∙ ap (λ z. f (touch_in old z) z) (sym k))
          (λ ne. put_apart (touch_in xs) i t e ne ∙ j.done e (omega (arith, ne, h))) (cases_eq e i);
      left = λ e h. ap (λ g. g e) w ∙ put_apart (touch_in xs) i t e (λ k. absurd (omega (arith, k, h))) ∙ j.left e (omega (arith, h));
    }

pub joined_one : (p : ℕ) (r w : ℕ → Bool) (old xs : List Touch) (i : ℕ) (t d : Touch) (x y : Bool) → Joined (λ t e. touched t p (r e) (w e)) old xs i → i < length xs → t ≡ touched (get_or xs i d) p x y → x ≡ r i → y ≡ w i
    → Joined (λ t e. touched t p (r e) (w e)) old (slice_set xs i t) (i + 1)
joined_one p r w old xs i t d x y j lt is ex ey = joined_next (λ t e. touched t p (r e) (w e)) old xs i t d j lt (is ∙ ap₂ {C = Touch} (λ (a b : Bool). touched (get_or xs i d) p a b) ex ey)
