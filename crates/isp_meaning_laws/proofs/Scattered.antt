-- What several stores in one array leave: the highest one's value.
use Rattle.std.proofs.Common.{◌≡◌, refl, sym, ap, ◌∙◌, subst, ⊎_elim, ℕ, zero, suc, ◌<◌, Bool, true, false, arith, true≢false, eq-eqb}
use Rattle.std.proofs.lemmas.Bool.{cases_eq, cond-true, cond-false, ne_eqb}
use Rattle.std.specs.Prelude.{Option, Some, None, nat_eq, ◌||◌, if◌then◌else◌}
use Rattle.isp_base.specs.Access.{element, is_outside, put_at, scatter}
use Rattle.isp_base.specs.Maps.{Lanes, Map, on, put, each1}
use Rattle.isp_base.specs.Sets.{Mask, any}
use Rattle.isp_base.specs.Types.{gang_width}
use Rattle.isp_base.specs.declared.trap.TrapKind.TheVariants.{Index}
use Rattle.isp_base.specs.declared.types.Elem.{Elem}
use Rattle.isp_base.specs.declared.types.Rate.{Rate}
use Rattle.isp_base.specs.declared.types.Rate.TheVariants.{Uniform, Varying}
use Rattle.isp_base.specs.declared.types.Span.{Span}
use Rattle.isp_typed.specs.declared.variable.ArrayVariable.{ArrayVariable}
use Rattle.isp_typed.specs.Typed.{TExpr, elem_of, Program}
use Rattle.isp_meaning.proofs.Others.{others_stay}
use Rattle.isp_meaning.specs.Laws.{HasNone, LeavesBy}
use Rattle.isp_meaning.specs.Outcomes.{Val, Gives, Done, bind, checked}
use Rattle.isp_meaning.specs.Payloads.{Payload, One, Each, spread, mapped, offender}
use Rattle.isp_meaning.specs.Places.{Element, stored, with_elements, kept}
use Rattle.isp_meaning.specs.State.{State, Frame, tick, extent}
use Rattle.isp_meaning_laws.specs.Scatters.{IsAt, IsHighest, Stored, TheHighestWins}

-- ---- one store after the other

put_here : (f : Lanes) (d x e : ℕ) → d ≡ e → put f d x e ≡ x
put_here f d x e i = cond-true (nat_eq e d) x (f e) (eq-eqb e d (sym i))

put_there : (f : Lanes) (d x e : ℕ) → (d ≡ e → ⊥) → put f d x e ≡ f e
put_there f d x e ne = cond-false (nat_eq e d) x (f e) (ne_eqb e d (λ i. ne (sym i)))

-- no store at e
passed : (o v : Option ℕ) (f : Lanes) (e : ℕ) → (o ≡ Some e → ⊥) → put_at o v f e ≡ f e
passed None v f e h = refl
passed (Some d) None f e h = refl
passed (Some d) (Some w) f e h = put_there f d w e (λ i. h (ap Some i))

module _ (places values : Map) (f : Lanes) (e : ℕ) where
  nowhere : (n : ℕ) → ((p : ℕ) → p < n → places p ≡ Some e → ⊥) → scatter n places values f e ≡ f e
  nowhere zero h = refl
  nowhere (suc n) h = passed (places n) (values n) (scatter n places values f) e (h n (omega arith)) ∙ nowhere n (λ p lt. h p (omega (arith, lt)))

  highest : (n p w : ℕ) → p < n → places p ≡ Some e → values p ≡ Some w → ((q : ℕ) → p < q → q < n → places q ≡ Some e → ⊥) → scatter n places values f e ≡ w
  highest zero p w lt i k h = absurd (omega (arith, lt))
  highest (suc n) p w lt i k h =
      ⊎_elim (λ d. last d) (λ ne. passed (places n) (values n) (scatter n places values f) e (h n (omega (arith, lt, ne)) (omega arith)) ∙ highest n p w (omega (arith, lt, ne)) i k (λ q above less. h q above (omega (arith, less)))) (cases_eq p n) where
        last : p ≡ n → put_at (places n) (values n) (scatter n places values f) e ≡ w
        last d = let x : places n ≡ Some e = ap places (sym d) ∙ i in let y : values n ≡ Some w = ap values (sym d) ∙ k in rw (x, y) (put_here (scatter n places values f) e w e refl)

-- ---- the members' stores

-- all store one value in one element
all_at : (a : Mask) (i x e : ℕ) (f : Lanes) → i ≡ e → (n : ℕ) → any n a ≡ true → scatter n (on a (λ q. i)) (on a (λ q. x)) f e ≡ x
all_at a i x e f d zero h = absurd (true≢false (sym h))
all_at a i x e f d (suc n) h = go (any n a) (a n) refl h (all_at a i x e f d n) where
  go : (c b : Bool) → any n a ≡ c → (c || b) ≡ true → (any n a ≡ true → scatter n (on a (λ q. i)) (on a (λ q. x)) f e ≡ x)
      → put_at (if b then Some i else None) (if b then Some x else None) (scatter n (on a (λ q. i)) (on a (λ q. x)) f) e ≡ x
  go c true k l r = put_here (scatter n (on a (λ q. i)) (on a (λ q. x)) f) i x e d
  go true false k l r = r k
  go false false k l r = absurd (true≢false (sym l))

module _ (a : Mask) (t : Elem) where
  one_at : (x p : ℕ) → a p ≡ true → on a (λ q. x) p ≡ Some x
  one_at x p on = ap (λ c. if c then Some x else None) on

  -- the element of who has an index
  at_each : (o : Option ℕ) (e : ℕ) → each1 (element t) o ≡ Some e → (k : ℕ) × (o ≡ Some k) × (element t k ≡ e)
  at_each None e h = absurd (cc)
  at_each (Some k) e h = (k, refl, cc)

  of_each : (o : Option ℕ) (k e : ℕ) → o ≡ Some k → element t k ≡ e → each1 (element t) o ≡ Some e
  of_each o k e h i = rw h (ap Some i)

  off_one : (x p : ℕ) → a p ≡ false → on a (λ q. x) p ≡ None
  off_one x p off = ap (λ c. if c then Some x else None) off

  some_not : (o : Option ℕ) (e : ℕ) → o ≡ None → o ≡ Some e → ⊥
  some_not o e h i = cc

  on_or : (b : Bool) {P : Type 0} → (b ≡ true → P) → (b ≡ false → P) → P
  on_or true h k = h refl
  on_or false h k = k refl

  -- whose place is an element is a member that is there
  there_is : (j : Payload) → ((p : ℕ) → a p ≡ false → HasNone p j) → (e p : ℕ) → spread a (mapped (element t) j) p ≡ Some e → (a p ≡ true) × IsAt a t j e p
  there_is (One k) h e p i = on_or (a p) (λ on. (on, record { index = k; has = one_at k p on; is = cc (i, one_at (element t k) p on) })) (λ off. absurd (some_not _ e (off_one (element t k) p off) i))
  there_is (Each x) h e p i =
      let r = at_each (x p) e i in
      on_or (a p) (λ on. (on, record { index = r.0; has = r.1; is = r.2 })) (λ off. absurd (some_not (x p) r.0 (h p off) r.1))

  is_there : (j : Payload) (e p : ℕ) → a p ≡ true → IsAt a t j e p → spread a (mapped (element t) j) p ≡ Some e
  is_there (One k) e p on i = let h = i.has in let l = i.is in let d : k ≡ i.index = cc (h, one_at k p on) in one_at (element t k) p on ∙ ap Some (ap (element t) d ∙ l)
  is_there (Each x) e p on i = of_each (x p) i.index e i.has i.is

  module _ (gang : ℕ) (some : any gang a ≡ true) (f : Lanes) (e : ℕ) where
    -- one store is one by each
    as_scatter : (j m : Payload) → stored gang a (mapped (element t) j) m f e ≡ scatter gang (spread a (mapped (element t) j)) (spread a m) f e
    as_scatter (Each x) m = refl
    as_scatter (One k) (Each y) = refl
    as_scatter (One k) (One w) =
        ⊎_elim (λ d. put_here f (element t k) w e d ∙ sym (all_at a (element t k) w e f d gang some))
        (λ ne. put_there f (element t k) w e ne ∙ sym (nowhere (on a (λ q. element t k)) (on a (λ q. w)) f e gang (λ p lt i. not_there p i ne))) (cases_eq (element t k) e) where
          not_there : (p : ℕ) → on a (λ q. element t k) p ≡ Some e → (element t k ≡ e → ⊥) → ⊥
          not_there p i ne = on_or (a p) (λ on_p. let l = one_at (element t k) p on_p in ne (cc (i, l))) (λ off. some_not _ e (off_one (element t k) p off) i)

    module _ (j m : Payload) (none : (p : ℕ) → a p ≡ false → HasNone p j) where
      pub left_there : (p w : ℕ) → IsHighest gang a t j e p → spread a m p ≡ Some w → stored gang a (mapped (element t) j) m f e ≡ w
      left_there p w h i = as_scatter j m ∙ highest (spread a (mapped (element t) j)) (spread a m) f e gang p w h.below (is_there j e p h.member h.at) i higher where
        higher : (q : ℕ) → p < q → q < gang → spread a (mapped (element t) j) q ≡ Some e → ⊥
        higher q above lt k = let r = there_is j none e q k in h.highest q above lt r.0 r.1

      pub left_elsewhere : ((p : ℕ) → p < gang → a p ≡ true → IsAt a t j e p → ⊥) → stored gang a (mapped (element t) j) m f e ≡ f e
      left_elsewhere h = as_scatter j m ∙ nowhere (spread a (mapped (element t) j)) (spread a m) f e gang (λ p lt i. let r = there_is j none e p i in h p lt r.0 r.1)

-- ---- the statement

put_same : {A : Type 0} (f : ℕ → A) (d : ℕ) (x : A) → put f d x d ≡ x
put_same f d x = cond-true (nat_eq d d) x (f d) (eq-eqb d d refl)

put_other : {A : Type 0} (f : ℕ → A) (d : ℕ) (x : A) (r : ℕ) → (r ≡ d → ⊥) → put f d x r ≡ f r
put_other f d x r ne = cond-false (nat_eq r d) x (f r) (ne_eqb r d ne)

module _ (program : Program) (most levels : ℕ) (frame : Frame) (b : ArrayVariable) (i x : TExpr) (a : Mask) (s : State) (j m : Payload) (before after : State)
    (h : Stored program most levels frame b i x a s j m before after) where
  abbrev gang : ℕ
  gang = gang_width program.gang

  abbrev ended : State → Val Done
  ended s = Gives tt s

  -- what is left by a check that passed
  passes : (o : Option ℕ) (at : Span) (v : Payload) (go : Payload → State → State) → bind (checked o Index at before v) (λ n s3. ended (go n s3)) ≡ ended after → after ≡ go v before
  passes None at v go e = cc
  passes (Some p) at v go e = absurd (cc)

  is_kept : after ≡ with_elements frame b (elem_of i) j a gang b.ty.rate m before
  is_kept = passes (offender gang (is_outside (elem_of i) (extent frame b)) a j) h.at m (λ n s3. kept gang frame (Element b (elem_of i) j) a n s3) (rw (h.index, h.value) at h.ends)

  none_out : (p : ℕ) → a p ≡ false → HasNone p j
  none_out p off = (subst (LeavesBy p (tick (tick s))) h.index (others_stay.expression program most levels frame i a (tick (tick s)) p off)).0

  arrays_are : after.arrays ≡ put before.arrays (frame.named b.number) (stored gang a (mapped (element (elem_of i)) j) m (before.arrays (frame.named b.number)))
  arrays_are = ap (λ t. t.arrays) is_kept ∙ by b.ty.rate h.shared where
    by : (r : Rate) → r ≡ Uniform
        → (with_elements frame b (elem_of i) j a gang r m before).arrays ≡ put before.arrays (frame.named b.number) (stored gang a (mapped (element (elem_of i)) j) m (before.arrays (frame.named b.number)))
    by Uniform e = refl
    by Varying e = absurd (cc)

  here : after.arrays (frame.named b.number) ≡ stored gang a (mapped (element (elem_of i)) j) m (before.arrays (frame.named b.number))
  here = ap (λ f. f (frame.named b.number)) arrays_are ∙ put_same before.arrays (frame.named b.number) _

  there : (e p w : ℕ) → IsHighest gang a (elem_of i) j e p → spread a m p ≡ Some w → after.arrays (frame.named b.number) e ≡ w
  there e p w top v = ap (λ f. f e) here ∙ left_there a (elem_of i) gang h.some (before.arrays (frame.named b.number)) e j m none_out p w top v

  elsewhere : (e : ℕ) → ((p : ℕ) → p < gang → a p ≡ true → IsAt a (elem_of i) j e p → ⊥) → after.arrays (frame.named b.number) e ≡ before.arrays (frame.named b.number) e
  elsewhere e free = ap (λ f. f e) here ∙ left_elsewhere a (elem_of i) gang h.some (before.arrays (frame.named b.number)) e j m none_out free

  others : (k : ℕ) → (k ≡ frame.named b.number → ⊥) → after.arrays k ≡ before.arrays k
  others k ne = ap (λ f. f k) arrays_are ∙ put_other before.arrays (frame.named b.number) _ k ne

pub the_highest_wins : TheHighestWins
the_highest_wins = record {
  there = λ program most levels frame b i x a s j m before after h. there program most levels frame b i x a s j m before after h;
  elsewhere = λ program most levels frame b i x a s j m before after h. elsewhere program most levels frame b i x a s j m before after h;
  others = λ program most levels frame b i x a s j m before after h. others program most levels frame b i x a s j m before after h;
}
