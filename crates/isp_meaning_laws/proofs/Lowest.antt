-- A trap names the lowest member that offends.
use Rattle.std.proofs.Common.{◌≡◌, refl, sym, ap, ◌∙◌, subst, ⊎_elim, ℕ, zero, suc, ◌<◌, Bool, true, false, arith, true≢false}
use Rattle.std.proofs.lemmas.Bool.{cases_eq}
use Rattle.std.specs.Prelude.{Option, Some, None, ◌||◌, ◌&&◌, if◌then◌else◌}
use Rattle.isp_base.specs.Access.{is_outside, is_zero}
use Rattle.isp_base.specs.Cross.{or_zero, packed_outside}
use Rattle.isp_base.specs.Maps.{Map, holds, where_true}
use Rattle.isp_base.specs.Sets.{Mask, any, lowest, or_this}
use Rattle.isp_base.specs.Types.{gang_width}
use Rattle.isp_base.specs.declared.trap.TrapKind.{TrapKind}
use Rattle.isp_base.specs.declared.trap.TrapKind.TheVariants.{Divide, Index, Assert}
use Rattle.isp_base.specs.declared.types.Span.{Span}
use Rattle.isp_typed.specs.Typed.{TExpr, elem_of, Program}
use Rattle.isp_meaning.proofs.Others.{others_stay}
use Rattle.isp_meaning.specs.Expressions.{base_array}
use Rattle.isp_meaning.specs.Laws.{HasNone, LeavesBy}
use Rattle.isp_meaning.specs.Outcomes.{Val, Gives, Fails, Stops, Res, bind, with_value, checked}
use Rattle.isp_meaning.specs.Payloads.{Payload, One, Each, is_false, spread, offender, if_fails}
use Rattle.isp_meaning.specs.State.{State, Frame, tick, extent}
use Rattle.isp_meaning_laws.specs.Members.{value_over}
use Rattle.isp_meaning_laws.specs.Offenders.{IsLowest, Nobody, ByLowest, ByLowestThen, Passes, TheLowestIsNamed}

-- ---- the lowest of a set

abbrev LowestIs : ℕ → Mask → Option ℕ → Type 0
LowestIs n a None = (q : ℕ) → q < n → a q ≡ true → ⊥
LowestIs n a (Some p) = (p < n) × (a p ≡ true) × ((q : ℕ) → q < p → a q ≡ true → ⊥)

lowest_is : (n : ℕ) (a : Mask) → LowestIs n a (lowest n a)
lowest_is zero a = λ q lt. absurd (omega (arith, lt))
lowest_is (suc n) a = go (lowest n a) (lowest_is n a) (a n) refl where
  go : (o : Option ℕ) → LowestIs n a o → (t : Bool) → a n ≡ t → LowestIs (suc n) a (or_this o t n)
  go (Some p) h t e = let lt = h.0 in (omega (arith, lt), h.1, h.2)
  go None h true e = (omega arith, e, h)
  go None h false e = λ q lt on. ⊎_elim (λ k. true≢false (sym on ∙ (ap a k ∙ e))) (λ ne. h q (omega (arith, lt, ne)) on) (cases_eq q n)

-- ---- one check

-- no value outside the set
abbrev NoneOut : Mask → Payload → Type 0
NoneOut a m = (p : ℕ) → a p ≡ false → HasNone p m

module _ (gang : ℕ) (a : Mask) where
  check : {A : Type 0} (b : Mask) (offends : ℕ → Type 0) (kind : TrapKind) (place : Span) (s : State) (x : A)
      → ((p : ℕ) → b p ≡ true → (a p ≡ true) × offends p) → ((p : ℕ) → a p ≡ true → offends p → b p ≡ true)
      → ByLowest gang a offends kind place (checked (lowest gang b) kind place s x)
  check b offends kind place s x to from = go (lowest gang b) (lowest_is gang b) where
    go : (o : Option ℕ) → LowestIs gang b o → ByLowest gang a offends kind place (checked o kind place s x)
    go None h = λ q lt on bad. h q lt (from q on bad)
    go (Some p) h = (refl, refl, record { below = h.0; member = (to p h.1).0; does = (to p h.1).1; lowest = λ q lt on bad. h.2 q lt (from q on bad) })

  passes_one : (f : ℕ → Bool) (c : ℕ) (p : ℕ) (t : Bool) → f c ≡ t → a p ≡ true → holds f (spread a (One c) p) ≡ t
  passes_one f c p t e on = ap (λ z. holds f (if z then Some c else None)) on ∙ e

  none_where : (f : ℕ → Bool) (x : Map) → NoneOut a (Each x) → (p : ℕ) → where_true f x p ≡ true → a p ≡ true
  none_where f x h p e = go (a p) refl where
    go : (t : Bool) → a p ≡ t → t ≡ true
    go true i = refl
    go false i = sym (ap (holds f) (h p i)) ∙ e

  offender_check : {A : Type 0} (f : ℕ → Bool) (y : Payload) (kind : TrapKind) (place : Span) (s : State) (x : A)
      → NoneOut a y → ByLowest gang a (Passes f a y) kind place (checked (offender gang f a y) kind place s x)
  offender_check f (Each y) kind place s x h = check (where_true f y) (Passes f a (Each y)) kind place s x (λ p e. (none_where f y h p e, e)) (λ p on e. e)
  offender_check f (One c) kind place s x h = go (f c) refl where
    go : (t : Bool) → f c ≡ t → ByLowest gang a (Passes f a (One c)) kind place (checked (if_fails gang f a t) kind place s x)
    go true e = check a (Passes f a (One c)) kind place s x (λ p on. (on, passes_one f c p true e on)) (λ p on bad. on)
    go false e = λ q lt on bad. true≢false (sym bad ∙ passes_one f c q false e on)

  -- what follows where no one offends
  kept_by_bind : {A B : Type 0} (offends : ℕ → Type 0) (kind : TrapKind) (place : Span) (v : Val A) (to : A → State → Val B)
      → ((x : A) (s : State) → Nobody gang a offends → ByLowest gang a offends kind place (to x s))
      → ByLowest gang a offends kind place v → ByLowest gang a offends kind place (bind v to)
  kept_by_bind offends kind place (Gives x s) to e h = e x s h
  kept_by_bind offends kind place (Fails t s) to e h = h
  kept_by_bind offends kind place (Stops s) to e h = h

  then_run : {A : Type 0} (offends : ℕ → Type 0) (kind : TrapKind) (place : Span) (v : Val A) (to : A → State → Res)
      → ((x : A) (s : State) → Nobody gang a offends → ByLowestThen gang a offends kind place (to x s))
      → ByLowest gang a offends kind place v → ByLowestThen gang a offends kind place (with_value v to)
  then_run offends kind place (Gives x s) to e h = e x s h
  then_run offends kind place (Fails t s) to e h = h
  then_run offends kind place (Stops s) to e h = h

  -- where one offends, nothing follows
  offends_first : {A B : Type 0} (offends : ℕ → Type 0) (kind : TrapKind) (place : Span) (v : Val A) (to : A → State → Val B) (q : ℕ)
      → q < gang → a q ≡ true → offends q → ByLowest gang a offends kind place v → ByLowest gang a offends kind place (bind v to)
  offends_first offends kind place (Gives x s) to q lt on bad h = absurd (h q lt on bad)
  offends_first offends kind place (Fails t s) to q lt on bad h = h
  offends_first offends kind place (Stops s) to q lt on bad h = h

  -- where none does, it is as if nothing were checked
  nobody_first : {A B : Type 0} (o : Option ℕ) (kind : TrapKind) (place : Span) (s : State) (x : A) (to : A → State → Val B) (offends : ℕ → Type 0)
      → Nobody gang a offends → ByLowest gang a offends kind place (checked o kind place s x) → bind (checked o kind place s x) to ≡ to x s
  nobody_first None kind place s x to offends free h = refl
  nobody_first (Some p) kind place s x to offends free h = let l = h.2 in absurd (free p l.below l.member l.does)

-- ---- what an expression came to has no value outside the set

module _ (program : Program) (most levels : ℕ) (frame : Frame) where
  abbrev N : ℕ
  N = gang_width program.gang

  none_out : (x : TExpr) (a : Mask) (s s1 : State) (m : Payload) → value_over program most levels frame x a s ≡ Gives m s1 → NoneOut a m
  none_out x a s s1 m e p off = (subst (LeavesBy p s) e (others_stay.expression program most levels frame x a s p off)).0

left_true : (c d : Bool) → (c && d) ≡ true → c ≡ true
left_true true d e = refl
left_true false d e = e

none_any : (n : ℕ) (a : Mask) → ((q : ℕ) → q < n → a q ≡ true → ⊥) → any n a ≡ true → ⊥
none_any zero a h e = true≢false (sym e)
none_any (suc n) a h e = go (none_any n a (λ q lt on. h q (omega (arith, lt)) on)) (any n a) (a n) refl refl e where
  go : (any n a ≡ true → ⊥) → (c d : Bool) → any n a ≡ c → a n ≡ d → (c || d) ≡ true → ⊥
  go k true d i j e = k i
  go k false true i j e = h n (omega arith) j
  go k false false i j e = true≢false (sym e)

deep : (gang : ℕ) (a : Mask) → any gang a ≡ true → IsLowest gang a (λ q. Unit {0}) (or_zero (lowest gang a))
deep gang a some = go (lowest gang a) (lowest_is gang a) where
  go : (o : Option ℕ) → LowestIs gang a o → IsLowest gang a (λ q. Unit {0}) (or_zero o)
  go (Some p) h = record { below = h.0; member = h.1; does = tt; lowest = λ q lt on bad. h.2 q lt on }
  go None h = absurd (none_any gang a h some)

pub the_lowest_is_named : TheLowestIsNamed
the_lowest_is_named = record {
  division = λ program most levels frame op x y t sp a s s1 s2 m n e f.
      rw (e, f) (offender_check (gang_width program.gang) a (is_zero op t.elem) n Divide sp s2 _ (none_out program most levels frame y a s1 s2 n f));
  read = λ program most levels frame b i t at a s s1 j e.
      rw e (offender_check (gang_width program.gang) a (is_outside (elem_of i) (extent frame b)) j Index at s1 _ (none_out program most levels frame i a (tick s) s1 j e));
  assigned = λ program most levels frame b i x t at sp a s s1 s2 j m e f.
      rw (e, f) (kept_by_bind (gang_width program.gang) a (Passes (is_outside (elem_of i) (extent frame b)) a j) Index at _ _ (λ n s3 free. free)
      (offender_check (gang_width program.gang) a (is_outside (elem_of i) (extent frame b)) j Index at s2 _ (none_out program most levels frame i a (tick (tick s)) s1 j e)));
  updated_index = λ program most levels frame op e b i x t at sp a s s1 s2 j y q k f lt on bad.
      rw (k, f) (offends_first (gang_width program.gang) a (Passes (is_outside (elem_of i) (extent frame b)) a j) Index at _ _ q lt on bad
      (offender_check (gang_width program.gang) a (is_outside (elem_of i) (extent frame b)) j Index at s2 _ (none_out program most levels frame i a (tick (tick s)) s1 j k)));
  updated_division = λ program most levels frame op e b i x t at sp a s s1 s2 j y k f free.
      rw (k, f) (subst (ByLowest (gang_width program.gang) a (Passes (is_zero op e) a y) Divide sp)
      (sym (nobody_first (gang_width program.gang) a (offender (gang_width program.gang) (is_outside (elem_of i) (extent frame b)) a j) Index at s2 _ _ (Passes (is_outside (elem_of i) (extent frame b)) a j) free
      (offender_check (gang_width program.gang) a (is_outside (elem_of i) (extent frame b)) j Index at s2 _ (none_out program most levels frame i a (tick (tick s)) s1 j k))))
      (kept_by_bind (gang_width program.gang) a (Passes (is_zero op e) a y) Divide sp _ _ (λ n s3 none. none)
      (offender_check (gang_width program.gang) a (is_zero op e) y Divide sp s2 _ (none_out program most levels frame x a s1 s2 y f))));
  asserted = λ program most levels frame x c sp a s s1 m e.
      rw e (then_run (gang_width program.gang) a (Passes is_false a m) Assert c _ _ (λ n s2 free. free)
      (offender_check (gang_width program.gang) a is_false m Assert c s1 tt (none_out program most levels frame x a (tick s) s1 m e)));
  packed_store = λ program most levels frame b x sp a s s1 s2 z m e f.
      rw (e, f) (kept_by_bind (gang_width program.gang) a (λ q. packed_outside (extent frame (base_array b)) z a q ≡ true) Index sp _ _ (λ n s3 free. free)
      (check (gang_width program.gang) a (packed_outside (extent frame (base_array b)) z a) _ Index sp s2 m (λ p h. (left_true (a p) _ h, h)) (λ p on h. h)));
  packed_load = λ program most levels frame b v sp a s s1 z e.
      rw e (kept_by_bind (gang_width program.gang) a (λ q. packed_outside (extent frame (base_array b)) z a q ≡ true) Index sp _ _ (λ n s3 free. free)
      (check (gang_width program.gang) a (packed_outside (extent frame (base_array b)) z a) _ Index sp (tick s1) _ (λ p h. (left_true (a p) _ h, h)) (λ p on h. h)));
  too_deep = λ program most frame f xs t sp a s s1 ps some e. rw e (refl, refl, deep (gang_width program.gang) a some);
}
