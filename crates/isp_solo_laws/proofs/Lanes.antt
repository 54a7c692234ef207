-- Values over a set, member by member.
use Rattle.std.proofs.Common.{◌≡◌, ℕ, zero, suc, ◌<◌, ⊎_elim, Bool, true, false, refl, sym, ap, ◌∙◌, subst, arith, true≢false}
use Rattle.std.specs.Prelude.{Option, Some, None, ◌&&◌, ◌||◌, if◌then◌else◌}
use Rattle.std.proofs.lemmas.Bool.{cases_eq}
use Rattle.isp_base.specs.Sets.{Mask, nobody, any, lowest, or_this}
use Rattle.isp_base.specs.Maps.{Map, on, holds, each1, each2, where_true, or_old}
use Rattle.isp_base.specs.declared.types.Rate.{Rate}
use Rattle.isp_base.specs.declared.types.Rate.TheVariants.{Uniform}
use Rattle.isp_meaning.specs.Payloads.{Payload, One, Each, spread, mapped, joined, kept_by, first_of_two, layer, offender, if_fails}
use Rattle.isp_solo_laws.specs.Values.{IsOne, Stand}

-- ---- sets

pub or_left : (a b : Bool) → (a || b) ≡ false → a ≡ false
or_left true b e = e
or_left false b e = refl

pub or_right : (a b : Bool) → (a || b) ≡ false → b ≡ false
or_right true b e = absurd (true≢false e)
or_right false b e = e

pub none_below : (n : ℕ) (a : Mask) → any n a ≡ false → (p : ℕ) → p < n → a p ≡ false
none_below zero a e p lt = let no : ⊥ = omega (arith, lt) in absurd no
none_below (suc n) a e p lt = ⊎_elim (λ pe. subst (λ z. a z ≡ false) (sym pe) (or_right (any n a) (a n) e)) (λ ne. let lt2 : p < n = omega (arith, lt, ne) in none_below n a (or_left (any n a) (a n) e) p lt2) (cases_eq p n)

pub not_true : (b : Bool) → (b ≡ true → b ≡ false) → b ≡ false
not_true true h = h refl
not_true false h = refl

-- over a set inside the gang without members nobody is a member
pub nobody_in : (n : ℕ) (a : Mask) → ((p : ℕ) → a p ≡ true → p < n) → any n a ≡ false → (p : ℕ) → a p ≡ false
nobody_in n a inside e p = not_true (a p) (λ t. none_below n a e p (inside p t))

-- a set with members has one
pub member : (n : ℕ) (a : Mask) → any n a ≡ true → (p : ℕ) × (a p ≡ true)
member zero a e = absurd (true≢false (sym e))
member (suc n) a e = go (any n a) (a n) (λ i. member n a i) refl refl e where
  go : (t u : Bool) → (any n a ≡ true → (p : ℕ) × (a p ≡ true)) → any n a ≡ t → a n ≡ u → (t || u) ≡ true → (p : ℕ) × (a p ≡ true)
  go true u before i j h = before i
  go false true before i j h = (n, j)
  go false false before i j h = absurd (true≢false (sym h))

pub lowest_none : (n : ℕ) (a : Mask) → ((p : ℕ) → a p ≡ false) → lowest n a ≡ None
lowest_none zero a h = refl
lowest_none (suc n) a h = ap (λ z. or_this z (a n) n) (lowest_none n a h) ∙ ap (λ z. or_this None z n) (h n)

pub and_left : (x y : Bool) → (x && y) ≡ true → x ≡ true
and_left true y e = refl
and_left false y e = e

-- ---- one value for the gang, or one in each member

pub some_same : (x y : ℕ) → Some x ≡ Some y → x ≡ y
some_same x y e = ap (λ (o : Option ℕ). or_old o 0) e

pub none_not : (x : ℕ) → None ≡ Some x → ⊥
none_not x e = subst (λ (o : Option ℕ). IsNone o) e tt where
  IsNone : Option ℕ → Type 0
  IsNone None = Unit {0}
  IsNone (Some y) = ⊥

on_true : (t : Bool) (x y : ℕ) → t ≡ true → (if t then Some x else None) ≡ (if t then Some y else None) → x ≡ y
on_true true x y e h = some_same x y h
on_true false x y e h = absurd (true≢false (sym e))

-- what one value is in a member
pub one_is : (a : Mask) (x : ℕ) (y : ℕ → ℕ) (p : ℕ) → spread a (One x) p ≡ on a y p → a p ≡ true → x ≡ y p
one_is a x y p h t = on_true (a p) x (y p) t h

each_on : (f : ℕ → ℕ) (t : Bool) (y : ℕ) → each1 f (if t then Some y else None) ≡ (if t then Some (f y) else None)
each_on f true y = refl
each_on f false y = refl

both_on : (f : ℕ → ℕ → ℕ) (t : Bool) (x y : ℕ) → each2 f (if t then Some x else None) (if t then Some y else None) ≡ (if t then Some (f x y) else None)
both_on f true x y = refl
both_on f false x y = refl

pub holds_on : (f : ℕ → Bool) (t : Bool) (y : ℕ) → holds f (if t then Some y else None) ≡ (t && f y)
holds_on f true y = refl
holds_on f false y = refl

spread_mapped : (f : ℕ → ℕ) (a : Mask) (m : Payload) (p : ℕ) → spread a (mapped f m) p ≡ each1 f (spread a m p)
spread_mapped f a (One x) p = sym (each_on f (a p) x)
spread_mapped f a (Each x) p = refl

spread_joined : (f : ℕ → ℕ → ℕ) (a : Mask) (m n : Payload) (p : ℕ) → spread a (joined f a m n) p ≡ each2 f (spread a m p) (spread a n p)
spread_joined f a (One x) (One y) p = sym (both_on f (a p) x y)
spread_joined f a (One x) (Each y) p = refl
spread_joined f a (Each x) n p = refl

mapped_one : (f : ℕ → ℕ) (m : Payload) → IsOne m → IsOne (mapped f m)
mapped_one f (One x) h = tt
mapped_one f (Each x) h = h

joined_one : (f : ℕ → ℕ → ℕ) (a : Mask) (m n : Payload) → IsOne m → IsOne n → IsOne (joined f a m n)
joined_one f a (One x) (One y) h k = tt
joined_one f a (One x) (Each y) h k = k
joined_one f a (Each x) n h k = h

module _ (gang : ℕ) (a : Mask) where
  pub mapped_stand : (r q : Rate) (f : ℕ → ℕ) (m : Payload) (y : ℕ → ℕ) → (q ≡ Uniform → r ≡ Uniform) → Stand gang a r m y → Stand gang a q (mapped f m) (λ p. f (y p))
  mapped_stand r q f m y u h = record {
    at = λ p. spread_mapped f a m p ∙ ap (each1 f) (h.at p) ∙ each_on f (a p) (y p);
    one = λ i e. mapped_one f m (h.one i (u e));
  }

  pub joined_stand : (r1 r2 q : Rate) (f : ℕ → ℕ → ℕ) (m n : Payload) (y z : ℕ → ℕ) → (q ≡ Uniform → r1 ≡ Uniform) → (q ≡ Uniform → r2 ≡ Uniform) → Stand gang a r1 m y → Stand gang a r2 n z
      → Stand gang a q (joined f a m n) (λ p. f (y p) (z p))
  joined_stand r1 r2 q f m n y z u1 u2 h k = record {
    at = λ p. spread_joined f a m n p ∙ ap (λ o. each2 f o (spread a n p)) (h.at p) ∙ ap (each2 f (on a y p)) (k.at p) ∙ both_on f (a p) (y p) (z p);
    one = λ i e. joined_one f a m n (h.one i (u1 e)) (k.one i (u2 e));
  }

  -- one value stands for all
  pub one_stands : (r : Rate) (x : ℕ) → Stand gang a r (One x) (λ p. x)
  one_stands r x = record { at = λ p. refl; one = λ i e. tt }

  pub stand_as : (r q : Rate) (m : Payload) (y : ℕ → ℕ) → (q ≡ Uniform → r ≡ Uniform) → Stand gang a r m y → Stand gang a q m y
  stand_as r q m y u h = record { at = h.at; one = λ i e. h.one i (u e) }

  -- where no member's value fails, no instance is an offender
  pub no_offender : (fails : ℕ → Bool) (m : Payload) (y : ℕ → ℕ) → any gang a ≡ true → ((p : ℕ) → spread a m p ≡ on a y p) → ((p : ℕ) → a p ≡ true → fails (y p) ≡ false) → offender gang fails a m ≡ None
  no_offender fails (One x) y some h good = go (member gang a some) where
    go : (p : ℕ) × (a p ≡ true) → if_fails gang fails a (fails x) ≡ None
    go q = ap (if_fails gang fails a) (ap fails (one_is a x y q.0 (h q.0) q.1) ∙ good q.0 q.1)
  no_offender fails (Each x) y some h good = lowest_none gang (where_true fails x) (λ p. ap (holds fails) (h p) ∙ off (a p) (y p) (good p)) where
    off : (t : Bool) (z : ℕ) → (t ≡ true → fails z ≡ false) → holds fails (if t then Some z else None) ≡ false
    off true z g = g refl
    off false z g = refl

  -- the members whose value passes a test
  pub kept_is : (f : ℕ → Bool) (m : Payload) (y : ℕ → ℕ) (p : ℕ) → spread a m p ≡ on a y p → kept_by f a m p ≡ (a p && f (y p))
  kept_is f (Each x) y p h = ap (holds f) h ∙ holds_on f (a p) (y p)
  kept_is f (One x) y p h = go (a p) refl where
    pick : (u : Bool) → (if u then a else nobody) p ≡ (a p && u)
    pick true = sym (and_true (a p)) where
      and_true : (t : Bool) → (t && true) ≡ t
      and_true true = refl
      and_true false = refl
    pick false = sym (and_false (a p)) where
      and_false : (t : Bool) → (t && false) ≡ false
      and_false true = refl
      and_false false = refl

    go : (t : Bool) → a p ≡ t → (if f x then a else nobody) p ≡ (a p && f (y p))
    go true e = pick (f x) ∙ ap (λ z. a p && f z) (one_is a x y p h e)
    go false e = pick (f x) ∙ ap (λ z. z && f x) e ∙ sym (ap (λ z. z && f (y p)) e)

-- ---- later operands, over a smaller set

module _ (a k : Mask) where
  -- what the members of the smaller set have, and the others had before
  layered : (t u : Bool) (x y : ℕ) (o : Option ℕ) → o ≡ (if t && u then Some x else None) → first_of_two o (if t then Some y else None) ≡ (if t then Some (if u then x else y) else None)
  layered true true x y o e = ap (λ z. first_of_two z (Some y)) e
  layered true false x y o e = ap (λ z. first_of_two z (Some y)) e
  layered false u x y o e = ap (λ z. first_of_two z None) e

  pub layer_is : (u : ℕ → Bool) (m : Map) (n : Payload) (x y : ℕ → ℕ) (p : ℕ) → k p ≡ (a p && u p) → spread k n p ≡ on k x p → m p ≡ on a y p
      → layer (spread k n) m p ≡ on a (λ q. if u q then x q else y q) p
  layer_is u m n x y p kk h i =
      ap (first_of_two (spread k n p)) i ∙ layered (a p) (u p) (x p) (y p) (spread k n p) (h ∙ ap (λ z. if z then Some (x p) else None) kk)
