-- Values that are one in each member of a set, as one for the gang or one in each.
use Rattle.std.specs.Prelude.{◌≡◌, ℕ, Option, Some, None, Bool, true, false, not, ◌&&◌, if◌then◌else◌}
use Rattle.std.proofs.Common.{refl, sym, ap, ap₂, ◌∙◌, subst}
use Rattle.std.proofs.Math.Path.{fun_ext}
use Rattle.isp_base.specs.Cross.{or_zero}
use Rattle.isp_base.specs.Maps.{Lanes, Map, on, each1, each2, map1, map2, holds, where_true}
use Rattle.isp_base.specs.Sets.{Mask, nobody, any, lowest}
use Rattle.isp_typed.specs.declared.variable.Logic.{Logic}
use Rattle.isp_meaning.specs.Payloads.{Payload, One, Each, is_true, is_false, spread, nothing, mapped, joined, kept_by, first_of_two, layer, selected, offender, if_fails}
use Rattle.isp_meaning.specs.Library.{chosen_one, chosen_by}
use Rattle.isp_meaning.specs.Expressions.{needs, settled}
use Rattle.isp_steady.specs.Values.{IsOne}
use Rattle.isp_meaning.proofs.Members.{none_all, no_lowest, no_member}

-- both of two tests are true
pub both : (b c : Bool) → (b && c) ≡ true → (b ≡ true) × (c ≡ true)
both true c e = (refl, e)
both false c e = absurd (cc)

module _ (a : Mask) where
  at_each1 : (f : ℕ → ℕ) (t : Bool) (x : ℕ) → each1 f (if t then Some x else None) ≡ (if t then Some (f x) else None)
  at_each1 f true x = refl
  at_each1 f false x = refl

  pub map1_on : (f : ℕ → ℕ) (g : Lanes) → map1 f (on a g) ≡ on a (λ p. f (g p))
  map1_on f g = fun_ext (λ p. at_each1 f (a p) (g p))

  at_each2 : (f : ℕ → ℕ → ℕ) (t : Bool) (x y : ℕ) → each2 f (if t then Some x else None) (if t then Some y else None) ≡ (if t then Some (f x y) else None)
  at_each2 f true x y = refl
  at_each2 f false x y = refl

  pub map2_on : (f : ℕ → ℕ → ℕ) (g h : Lanes) → map2 f (on a g) (on a h) ≡ on a (λ p. f (g p) (h p))
  map2_on f g h = fun_ext (λ p. at_each2 f (a p) (g p) (h p))

  -- one for the gang, or one in each: the same in each member
  pub spread_one : (u : ℕ) (m : Payload) → IsOne a u m → spread a m ≡ on a (λ p. u)
  spread_one u (One y) h = ap (λ z. on a (λ p. z)) h
  spread_one u (Each f) h = h

  pub mapped_one : (f : ℕ → ℕ) (u : ℕ) (m : Payload) → IsOne a u m → IsOne a (f u) (mapped f m)
  mapped_one f u (One y) h = ap f h
  mapped_one f u (Each g) h = ap (map1 f) h ∙ map1_on f (λ p. u)

  pub joined_one : (f : ℕ → ℕ → ℕ) (u w : ℕ) (m n : Payload) → IsOne a u m → IsOne a w n → IsOne a (f u w) (joined f a m n)
  joined_one f u w (One x) (One y) h k = ap₂ f h k
  joined_one f u w (One x) (Each y) h k = ap₂ (map2 f) (ap (λ z. on a (λ p. z)) h) k ∙ map2_on f (λ p. u) (λ p. w)
  joined_one f u w (Each x) n h k = ap₂ (map2 f) h (spread_one w n k) ∙ map2_on f (λ p. u) (λ p. w)

  -- ---- who passes a test: all or nobody

  at_holds : (f : ℕ → Bool) (t : Bool) (u : ℕ) (b : Bool) → f u ≡ b → holds f (if t then Some u else None) ≡ (if b then a else nobody) 0 → Unit {0}
  at_holds f t u b e h = tt

  holds_on : (f : ℕ → Bool) (t : Bool) (u : ℕ) → holds f (if t then Some u else None) ≡ (t && f u)
  holds_on f true u = refl
  holds_on f false u = refl

  kept_all : (t b : Bool) → (t && b) ≡ (if b then t else false)
  kept_all true true = refl
  kept_all true false = refl
  kept_all false true = refl
  kept_all false false = refl

  at_set : (b : Bool) (p : ℕ) → (if b then a p else false) ≡ (if b then a else nobody) p
  at_set true p = refl
  at_set false p = refl

  pub where_on : (f : ℕ → Bool) (u : ℕ) → where_true f (on a (λ p. u)) ≡ (if f u then a else nobody)
  where_on f u = fun_ext (λ p. holds_on f (a p) u ∙ kept_all (a p) (f u) ∙ at_set (f u) p)

  pub kept_one : (f : ℕ → Bool) (u : ℕ) (m : Payload) → IsOne a u m → kept_by f a m ≡ (if f u then a else nobody)
  kept_one f u (One y) h = ap (λ z. if f z then a else nobody) h
  kept_one f u (Each x) h = ap (where_true f) h ∙ where_on f u

  -- ---- whoever fails is the lowest

  lowest_of : (gang : ℕ) (b : Bool) → lowest gang (if b then a else nobody) ≡ if_fails gang (λ x. false) a b
  lowest_of gang true = refl
  lowest_of gang false = no_lowest gang nobody (none_all gang nobody (λ q lt. refl))

  same_fails : (gang : ℕ) (f g : ℕ → Bool) (b : Bool) → if_fails gang f a b ≡ if_fails gang g a b
  same_fails gang f g true = refl
  same_fails gang f g false = refl

  pub offender_one : (gang : ℕ) (f : ℕ → Bool) (u : ℕ) (m : Payload) → IsOne a u m → offender gang f a m ≡ if_fails gang f a (f u)
  offender_one gang f u (One y) h = ap (λ z. if_fails gang f a (f z)) h
  offender_one gang f u (Each x) h = ap (lowest gang) (ap (where_true f) h ∙ where_on f u) ∙ lowest_of gang (f u) ∙ same_fails gang (λ x. false) f (f u)

  -- ---- choices: where all choose alike

  at_layer_some : (t : Bool) (x : ℕ) → first_of_two (if t then Some x else None) None ≡ (if t then Some x else None)
  at_layer_some true x = refl
  at_layer_some false x = refl

  layer_none : (x : Map) → layer x (λ p. None) ≡ x
  layer_none x = fun_ext (λ p. by (x p))
    where
      by : (o : Option ℕ) → first_of_two o None ≡ o
      by None = refl
      by (Some y) = refl

  none_layer : (x : Map) → layer (λ p. None) x ≡ x
  none_layer x = refl

  -- the values of those that took the second operand lie over the first ones
  layer_over : (u w : ℕ) → layer (on a (λ p. u)) (on a (λ p. w)) ≡ on a (λ p. u)
  layer_over u w = fun_ext (λ p. by (a p))
    where
      by : (t : Bool) → first_of_two (if t then Some u else None) (if t then Some w else None) ≡ (if t then Some u else None)
      by true = refl
      by false = refl

  spread_nobody : (m : Payload) → (m ≡ nothing) → spread nobody m ≡ (λ p. None)
  spread_nobody m e = ap (spread nobody) e

  -- `&&` and `||`: the right value where it was needed
  pub settled_needed : (l : Logic) (u w : ℕ) (m n : Payload) → IsOne a u m → needs l u ≡ true → IsOne a w n → IsOne a w (settled l a m n)
  settled_needed l u w (One x) n h e k = subst (λ t. IsOne a w (if t then n else One x)) (sym (ap (needs l) h ∙ e)) k
  settled_needed l u w (Each x) n h e k =
      ap₂ layer (ap (λ b. spread b n) (ap (where_true (needs l)) h ∙ where_on (needs l) u ∙ ap (λ t. if t then a else nobody) e) ∙ spread_one w n k) h ∙ layer_over w u

  pub settled_left : (l : Logic) (u : ℕ) (m : Payload) → IsOne a u m → needs l u ≡ false → IsOne a u (settled l a m nothing)
  settled_left l u (One x) h e = subst (λ t. IsOne a u (if t then nothing else One x)) (sym (ap (needs l) h ∙ e)) h
  settled_left l u (Each x) h e = h

  -- `?:`: the value of the branch that all took
  pub selected_first : (c u : ℕ) (k m : Payload) → IsOne a c k → is_true c ≡ true → IsOne a u m → IsOne a u (selected a k m nothing)
  selected_first c u (One x) m h e i = subst (λ t. IsOne a u (if t then m else nothing)) (sym (ap is_true h ∙ e)) i
  selected_first c u (Each x) m h e i =
      ap₂ layer (ap (λ b. spread b m) (ap (where_true is_true) h ∙ where_on is_true c ∙ ap (λ t. if t then a else nobody) e) ∙ spread_one u m i) refl ∙ layer_none (on a (λ p. u))

  pub selected_second : (c u : ℕ) (k n : Payload) → IsOne a c k → is_true c ≡ false → IsOne a u n → IsOne a u (selected a k nothing n)
  selected_second c u (One x) n h e i = subst (λ t. IsOne a u (if t then nothing else n)) (sym (ap is_true h ∙ e)) i
  selected_second c u (Each x) n h e i = ap (λ b. spread b n) (ap (where_true is_false) h ∙ where_on is_false c ∙ ap (λ t. if not t then a else nobody) e) ∙ spread_one u n i

  -- `select`: both values are there
  at_chosen : (t : Bool) (c u w : ℕ) → chosen_one (if t then Some c else None) (if t then Some u else None) (if t then Some w else None) ≡ (if t then Some (if is_true c then u else w) else None)
  at_chosen true c u w = by (is_true c)
    where
      by : (b : Bool) → (if b then Some u else Some w) ≡ Some (if b then u else w)
      by true = refl
      by false = refl
  at_chosen false c u w = refl

  chosen_same : (b : Bool) (u w : ℕ) (m n : Payload) → IsOne a u m → IsOne a w n → IsOne a (if b then u else w) (if b then m else n)
  chosen_same true u w m n i j = i
  chosen_same false u w m n i j = j

  pub chosen_of : (c u w : ℕ) (k m n : Payload) → IsOne a c k → IsOne a u m → IsOne a w n → IsOne a (if is_true c then u else w) (chosen_by a k m n)
  chosen_of c u w (One x) m n h i j = subst (λ z. IsOne a (if is_true z then u else w) (if is_true x then m else n)) h (chosen_same (is_true x) u w m n i j)
  chosen_of c u w (Each x) m n h i j =
      fun_ext (λ p. ap (λ z. chosen_one (z p) (spread a m p) (spread a n p)) h ∙ ap₂ (λ y z. chosen_one (if a p then Some c else None) (y p) (z p)) (spread_one u m i) (spread_one w n j) ∙ at_chosen (a p) c u w)

-- ---- the lowest member of a set that is not empty

pub has_lowest : (gang : ℕ) (a : Mask) → any gang a ≡ true → lowest gang a ≡ Some (or_zero (lowest gang a))
has_lowest gang a some = by (lowest gang a) refl
  where
    by : (o : Option ℕ) → lowest gang a ≡ o → o ≡ Some (or_zero o)
    by None e = absurd (let h : any gang a ≡ false = no_member gang a e in let k = some in cc)
    by (Some p) e = refl

-- what the members have is decided by the members
pub on_same : (a : Mask) (g h : Lanes) → ((p : ℕ) → a p ≡ true → g p ≡ h p) → on a g ≡ on a h
on_same a g h k = fun_ext (λ p. by p (a p) refl)
  where
    by : (p : ℕ) (t : Bool) → a p ≡ t → (if t then Some (g p) else None) ≡ (if t then Some (h p) else None)
    by p true e = ap Some (k p e)
    by p false e = refl
