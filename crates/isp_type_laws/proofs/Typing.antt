-- States whose values fit the types of what holds them.
use Rattle.std.specs.Prelude.{◌≡◌, ℕ, ◌^◌, ◌<◌, List, Option, Some, None, Bool, true, false, nat_eq, if◌then◌else◌, ℤ, unsigned_abs, slice_get}
use Rattle.std.proofs.Common.{refl, sym, ap, ◌∙◌, subst, pow_pos}
use Rattle.isp_base.specs.Access.{element}
use Rattle.isp_base.specs.Cross.{packed_index, packed_places}
use Rattle.isp_base.specs.Sets.{Mask, any}
use Rattle.isp_base.specs.Maps.{Lanes, Map, over, or_old, put, holds}
use Rattle.isp_base.specs.Values.{width}
use Rattle.isp_base.specs.declared.types.Elem.{Elem}
use Rattle.isp_base.specs.declared.types.Elem.TheVariants.{Bool as Truth}
use Rattle.isp_base.specs.declared.types.Rate.{Rate}
use Rattle.isp_base.specs.declared.types.Rate.TheVariants.{Uniform, Varying}
use Rattle.isp_base.specs.declared.types.Span.{Span}
use Rattle.isp_base.specs.declared.types.Ty.{Ty}
use Rattle.isp_base.specs.declared.trap.TrapKind.{TrapKind}
use Rattle.isp_typed.specs.Fine.{HoldsArray, array_type}
use Rattle.isp_typed.specs.Typed.{ty_of}
use Rattle.isp_typed.specs.declared.variable.ArrayVariable.{ArrayVariable}
use Rattle.isp_typed.specs.declared.variable.Holds.{Holds}
use Rattle.isp_typed.specs.declared.variable.Holds.TheVariants as hold
use Rattle.isp_typed.specs.declared.variable.Variable.{Variable}
use Rattle.isp_meaning.specs.State.{State, Frame}
use Rattle.isp_meaning.specs.Payloads.{Payload, sole, spread, mapped, nothing}
use Rattle.isp_meaning.specs.Outcomes.{Val, Gives, Fails, Stops, Res, Went, Trapped, Cut, bind, with_value, checked, go_on, went_all, if_so, unless_empty, value_unless_empty}
use Rattle.isp_meaning.specs.Places.{Place, Variable as AVariable, Element, variable, written, own_stored, elements, with_elements, held, kept}
use Rattle.isp_meaning.specs.Expressions.{packed_held, packed_kept}
use Rattle.isp_meaning.specs.Simple.{cleared}
use Rattle.isp_meaning.specs.Statements.{answered, answered_at}
use Rattle.isp_type_laws.proofs.Bounds.{Under, Fits, on_under, old_under, put_holds, scatter_under, sole_under, spread_inside, mapped_bounded, each_bounded, stored_under}

-- ---- what the variables hold

abbrev pub held_elem : Holds → Elem
held_elem (hold.Value t) = t.elem
held_elem (hold.Given e) = e
held_elem (hold.Local t n) = t.elem

abbrev pub elem_if : Option Variable → Elem
elem_if None = Truth
elem_if (Some v) = held_elem v.holds

abbrev pub answer_elem : Option Ty → Elem
answer_elem None = Truth
answer_elem (Some t) = t.elem

-- where a call runs: its frame, the variables of its function, and the element type of each store
pub record World : Type 0 where
  pub frame : Frame
  pub variables : List Variable
  pub stores : ℕ → Elem

abbrev pub elem_at : World → ℕ → Elem
elem_at w v = elem_if (slice_get w.variables v)

-- ---- states

-- the parts of a state, in the instances of the gang
pub record Parts (gang : ℕ) (w : World) (us : ℕ → ℕ) (vs : ℕ → Lanes) (os : ℕ → ℕ → Lanes) (r : ℕ) (rs : Lanes) (bs : ℕ → ℕ → ℕ) : Type 0 where
  pub uniforms : (v : ℕ) → us v < 2 ^ width (elem_at w v)
  pub varying : (v p : ℕ) → p < gang → vs v p < 2 ^ width (elem_at w v)
  pub own : (v e p : ℕ) → p < gang → os v e p < 2 ^ width (elem_at w v)
  pub result : r < 2 ^ width (answer_elem w.frame.answer)
  pub results : (p : ℕ) → p < gang → rs p < 2 ^ width (answer_elem w.frame.answer)
  pub arrays : (b e : ℕ) → bs b e < 2 ^ width (w.stores b)

-- each store that is open, whatever the variables are
abbrev pub Left : World → State → Type 0
Left w s = (b : ℕ) → b < w.frame.opened → (e : ℕ) → s.arrays b e < 2 ^ width (w.stores b)

-- a store that is open, with elements of this type
abbrev pub IsStore : World → ℕ → Elem → Type 0
IsStore w b e = (w.stores b ≡ e) × (b < w.frame.opened)

abbrev pub SharedRate : World → ℕ → Rate → Elem → Type 0
SharedRate w b Uniform e = IsStore w b e
SharedRate w b Varying e = Unit {0}

abbrev pub SharedHeld : World → ℕ → Holds → Type 0
SharedHeld w b (hold.Value t) = Unit {0}
SharedHeld w b (hold.Given e) = IsStore w b e
SharedHeld w b (hold.Local t n) = SharedRate w b t.rate t.elem

abbrev pub SharedBy : World → ℕ → Option Variable → Type 0
SharedBy w b None = Unit {0}
SharedBy w b (Some v) = SharedHeld w b v.holds

-- each array of the call that all instances share is a store of its type
pub record Stands (w : World) : Type 0 where
  pub shared : (v : ℕ) → SharedBy w (w.frame.named v) (slice_get w.variables v)

abbrev from_some : {A : Type 0} → A → Option A → A
from_some x None = x
from_some x (Some y) = y

pub some_same : {A : Type 0} (x y : A) → Some x ≡ Some y → x ≡ y
some_same x y e = ap (from_some x) e

pub array_elem : (w : World) (a : ArrayVariable) → HoldsArray w.variables a → elem_at w a.number ≡ a.ty.elem
array_elem w a h = ap elem_if h.is ∙ by h.variable.holds h.ty
  where
    by : (x : Holds) → array_type x ≡ Some a.ty → held_elem x ≡ a.ty.elem
    by (hold.Value t) e = absurd (cc)
    by (hold.Given t) e = ap (λ z. z.elem) (some_same (ty_of Uniform t) a.ty e)
    by (hold.Local t n) e = ap (λ z. z.elem) (some_same t a.ty e)

pub array_store : (w : World) (a : ArrayVariable) → Stands w → HoldsArray w.variables a → a.ty.rate ≡ Uniform → IsStore w (w.frame.named a.number) a.ty.elem
array_store w a s h r = by h.variable.holds h.ty (subst (SharedBy w (w.frame.named a.number)) h.is (s.shared a.number))
  where
    by : (x : Holds) → array_type x ≡ Some a.ty → SharedHeld w (w.frame.named a.number) x → IsStore w (w.frame.named a.number) a.ty.elem
    by (hold.Value t) e k = absurd (cc)
    by (hold.Given t) e k = subst (λ z. IsStore w (w.frame.named a.number) z.elem) (some_same (ty_of Uniform t) a.ty e) k
    by (hold.Local t n) e k =
        let same = some_same t a.ty e in
        subst (λ z. IsStore w (w.frame.named a.number) z.elem) same (subst (λ z. SharedRate w (w.frame.named a.number) z t.elem) (ap (λ z. z.rate) same ∙ r) k)

-- ---- going on

module _ (gang : ℕ) (w : World) where
  abbrev pub Sound : State → Type 0
  Sound s = Parts gang w s.uniforms s.varying s.own s.result s.results s.arrays

  pub left_of : (s : State) → Sound s → Left w s
  left_of s h b l e = h.arrays b e

  abbrev ValBy : {A : Type 0} → (A → Type 0) → Val A → Type 0
  ValBy Q (Gives x s) = Q x × Sound s
  ValBy Q (Fails t s) = Left w s
  ValBy Q (Stops s) = Left w s

  pub record ValFits {A : Type 0} (Q : A → Type 0) (v : Val A) : Type 0 where
    pub by : ValBy Q v

  abbrev ResBy : Res → Type 0
  ResBy (Went s g b c r) = Sound s
  ResBy (Trapped t s) = Left w s
  ResBy (Cut s) = Left w s

  pub record ResFits (v : Res) : Type 0 where
    pub by : ResBy v

  abbrev pub Any : {A : Type 0} → A → Type 0
  Any x = Unit {0}

  pub gives_fits : {A : Type 0} (Q : A → Type 0) (x : A) (s : State) → Q x → Sound s → ValFits Q (Gives x s)
  gives_fits Q x s q h = record { by = (q, h) }

  pub bind_fits : {A B : Type 0} (Q : A → Type 0) (R : B → Type 0) (v : Val A) (go : A → State → Val B) → ValFits Q v → ((x : A) (s : State) → Q x → Sound s → ValFits R (go x s)) → ValFits R (bind v go)
  bind_fits Q R (Gives x s) go h f = f x s h.by.0 h.by.1
  bind_fits Q R (Fails t s) go h f = record { by = h.by }
  bind_fits Q R (Stops s) go h f = record { by = h.by }

  -- where nothing is asked of the value
  pub any_fits : {A : Type 0} (Q : A → Type 0) (v : Val A) → ValFits Q v → ValFits Any v
  any_fits Q (Gives x s) h = record { by = (tt, h.by.1) }
  any_fits Q (Fails t s) h = record { by = h.by }
  any_fits Q (Stops s) h = record { by = h.by }

  pub with_fits : {A : Type 0} (Q : A → Type 0) (v : Val A) (go : A → State → Res) → ValFits Q v → ((x : A) (s : State) → Q x → Sound s → ResFits (go x s)) → ResFits (with_value v go)
  with_fits Q (Gives x s) go h f = f x s h.by.0 h.by.1
  with_fits Q (Fails t s) go h f = record { by = h.by }
  with_fits Q (Stops s) go h f = record { by = h.by }

  pub checked_fits : {A : Type 0} (Q : A → Type 0) (o : Option ℕ) (k : TrapKind) (sp : Span) (s : State) (x : A) → Q x → Sound s → ValFits Q (checked o k sp s x)
  checked_fits Q None k sp s x q h = record { by = (q, h) }
  checked_fits Q (Some p) k sp s x q h = record { by = left_of s h }

  pub unless_value : (t : Elem) (n : ℕ) (a : Mask) (s : State) (f : Mask → State → Val Payload) → ValFits (Fits gang t) (f a s) → Sound s → ValFits (Fits gang t) (value_unless_empty n a s f)
  unless_value t n a s f h k = by (any n a)
    where
      by : (b : Bool) → ValFits (Fits gang t) (if_so b (f a) (Gives nothing) s)
      by true = h
      by false = record { by = (λ p l. tt, k) }

  pub go_fits : (v : Res) (go : State → Mask → Mask → Mask → Mask → Res) → ResFits v → ((s : State) (g b c r : Mask) → Sound s → ResFits (go s g b c r)) → ResFits (go_on v go)
  go_fits (Went s g b c r) go h f = f s g b c r h.by
  go_fits (Trapped t s) go h f = record { by = h.by }
  go_fits (Cut s) go h f = record { by = h.by }

  pub if_fits : (t : Bool) (m n : State → Res) (s : State) → ResFits (m s) → ResFits (n s) → ResFits (if_so t m n s)
  if_fits true m n s h k = h
  if_fits false m n s h k = k

  pub went_fits : (s : State) (g b c r : Mask) → Sound s → ResFits (Went s g b c r)
  went_fits s g b c r h = record { by = h }

  pub unless_fits : (n : ℕ) (a : Mask) (s : State) (f : Mask → State → Res) → ResFits (f a s) → Sound s → ResFits (unless_empty n a s f)
  unless_fits n a s f h k = if_fits (any n a) (f a) (went_all a) s h (record { by = k })

  -- ---- what is read and written

  -- a place where values of this type are
  abbrev pub PlaceFits : Elem → Place → Type 0
  PlaceFits e (AVariable v t) = elem_at w v ≡ e
  PlaceFits e (Element b t i) = (elem_at w b.number ≡ e) × (b.ty.rate ≡ Uniform → w.stores (w.frame.named b.number) ≡ e)

  as_elem : (n : ℕ) {e t : Elem} → e ≡ t → n < 2 ^ width e → n < 2 ^ width t
  as_elem n e h = subst (λ z. n < 2 ^ width z) e h

  pub held_fits : (e : Elem) (q : Place) (a : Mask) (s : State) → PlaceFits e q → Sound s → Fits gang e (held gang w.frame q a s)
  held_fits e (AVariable v t) a s k h = by t.rate
    where
      by : (r : Rate) → Fits gang e (variable r v a s)
      by Uniform = as_elem (s.uniforms v) k (h.uniforms v)
      by Varying = λ p l. on_under (2 ^ width e) a (s.varying v) p (as_elem (s.varying v p) k (h.varying v p l))
  held_fits e (Element b t i) a s k h = by b.ty.rate refl
    where
      by : (r : Rate) → b.ty.rate ≡ r → Fits gang e (elements w.frame b t i a r s)
      by Uniform same = mapped_bounded gang (2 ^ width e) (λ x. s.arrays (w.frame.named b.number) (element t x)) (λ x. as_elem _ (k.1 same) (h.arrays (w.frame.named b.number) (element t x))) i
      by Varying same =
          each_bounded gang (2 ^ width e) (λ x p. s.own b.number (element t x) p) (λ x p l. as_elem _ k.0 (h.own b.number (element t x) p l)) (spread a i)

  back : (n : ℕ) {e t : Elem} → e ≡ t → n < 2 ^ width t → n < 2 ^ width e
  back n e h = subst (λ z. n < 2 ^ width z) (sym e) h

  -- a variable of this type takes values of it
  pub written_fits : (e : Elem) (r : Rate) (v : ℕ) (a : Mask) (x : Payload) (s : State) → elem_at w v ≡ e → Fits gang e x → Sound s → Sound (written r v a x s)
  written_fits e Uniform v a x s k q h =
      record {
        uniforms = put_holds (λ i n. n < 2 ^ width (elem_at w i)) s.uniforms v (sole x) (back (sole x) k (sole_under gang (2 ^ width e) (pow_pos (width e)) x q)) h.uniforms;
        varying = h.varying;
        own = h.own;
        result = h.result;
        results = h.results;
        arrays = h.arrays;
      }
  written_fits e Varying v a x s k q h =
      record {
        uniforms = h.uniforms;
        varying = put_holds (λ i f. (p : ℕ) → p < gang → f p < 2 ^ width (elem_at w i)) s.varying v (over (spread a x) (s.varying v))
            (λ p l. back _ k (old_under (2 ^ width e) (spread a x p) (s.varying v p) (spread_inside gang (2 ^ width e) a x q p l)
            (as_elem _ k (h.varying v p l)))) h.varying;
        own = h.own;
        result = h.result;
        results = h.results;
        arrays = h.arrays;
      }

  own_arrays : (s : State) (f : ℕ → ℕ → Lanes) → ((v e p : ℕ) → p < gang → f v e p < 2 ^ width (elem_at w v)) → Sound s → Sound (record s { own = f })
  own_arrays s f k h = record { uniforms = h.uniforms; varying = h.varying; own = k; result = h.result; results = h.results; arrays = h.arrays }

  all_arrays : (s : State) (f : ℕ → ℕ → ℕ) → ((b e : ℕ) → f b e < 2 ^ width (w.stores b)) → Sound s → Sound (record s { arrays = f })
  all_arrays s f k h = record { uniforms = h.uniforms; varying = h.varying; own = h.own; result = h.result; results = h.results; arrays = k }

  put_own : (s : State) (v : ℕ) (f : ℕ → Lanes) → ((e p : ℕ) → p < gang → f e p < 2 ^ width (elem_at w v)) → Sound s → Sound (record s { own = put s.own v f })
  put_own s v f k h = own_arrays s (put s.own v f) (put_holds (λ i g. (e p : ℕ) → p < gang → g e p < 2 ^ width (elem_at w i)) s.own v f k h.own) h

  put_store : (s : State) (b : ℕ) (f : Lanes) → ((e : ℕ) → f e < 2 ^ width (w.stores b)) → Sound s → Sound (record s { arrays = put s.arrays b f })
  put_store s b f k h = all_arrays s (put s.arrays b f) (put_holds (λ i g. (e : ℕ) → g e < 2 ^ width (w.stores i)) s.arrays b f k h.arrays) h

  own_under : (m : ℕ) (places x : Map) (f : ℕ → Lanes) (e p : ℕ) → Under m (x p) → f e p < m → own_stored places x f e p < m
  own_under m places x f e p h k = by (holds (λ i. nat_eq i e) (places p))
    where
      by : (t : Bool) → (if t then or_old (x p) (f e p) else f e p) < m
      by true = old_under m (x p) (f e p) h k
      by false = k

  pub kept_fits : (e : Elem) (q : Place) (a : Mask) (x : Payload) (s : State) → PlaceFits e q → Fits gang e x → Sound s → Sound (kept gang w.frame q a x s)
  kept_fits e (AVariable v t) a x s k i h = written_fits e t.rate v a x s k i h
  kept_fits e (Element b t i) a x s k j h = by b.ty.rate refl
    where
      by : (r : Rate) → b.ty.rate ≡ r → Sound (with_elements w.frame b t i a gang r x s)
      by Uniform same =
          put_store s (w.frame.named b.number) _ (λ d. back _ (k.1 same) (stored_under gang (2 ^ width e) a (mapped (element t) i) x (s.arrays (w.frame.named b.number)) j (λ c. as_elem _ (k.1 same) (h.arrays (w.frame.named b.number) c)) d)) h
      by Varying same =
          put_own s b.number _ (λ d p l. back _ k.0 (own_under (2 ^ width e) (spread a (mapped (element t) i)) (spread a x) (s.own b.number) d p (spread_inside gang (2 ^ width e) a x j p l) (as_elem _ k.0 (h.own b.number d p l)))) h

  pub cleared_fits : (r : Rate) (v : ℕ) (a : Mask) (s : State) → Sound s → Sound (cleared w.frame r v a s)
  cleared_fits Uniform v a s h = put_store s (w.frame.named v) (λ e. 0) (λ e. pow_pos (width (w.stores (w.frame.named v)))) h
  cleared_fits Varying v a s h = put_own s v (λ e p. if a p then 0 else s.own v e p) (λ e p l. by e p (a p) (h.own v e p l)) h
    where
      by : (e p : ℕ) (t : Bool) → s.own v e p < 2 ^ width (elem_at w v) → (if t then 0 else s.own v e p) < 2 ^ width (elem_at w v)
      by e p true k = pow_pos (width (elem_at w v))
      by e p false k = k

  pub packed_held_fits : (e : Elem) (b : ℕ) (z : ℤ) (a : Mask) (s : State) → w.stores b ≡ e → Sound s → Fits gang e (packed_held b z a s)
  packed_held_fits e b z a s k h = λ p l. on_under (2 ^ width e) a (λ i. s.arrays b (unsigned_abs (packed_index z a i))) p (as_elem _ k (h.arrays b (unsigned_abs (packed_index z a p))))

  pub packed_kept_fits : (e : Elem) (b : ℕ) (z : ℤ) (a : Mask) (x : Payload) (s : State) → w.stores b ≡ e → Fits gang e x → Sound s → Sound (packed_kept gang b z a x s)
  packed_kept_fits e b z a x s k i h =
      put_store s b _ (λ d. back _ k (scatter_under (2 ^ width e) gang (packed_places z a) (spread a x) (s.arrays b) (spread_inside gang (2 ^ width e) a x i) (λ c. as_elem _ k (h.arrays b c)) d)) h

  pub answered_fits : (t : Option Ty) (a : Mask) (x : Payload) (s : State) → t ≡ w.frame.answer → Fits gang (answer_elem t) x → Sound s → Sound (answered t a x s)
  answered_fits None a x s k i h = h
  answered_fits (Some t) a x s k i h = by t.rate
    where
      same : t.elem ≡ answer_elem w.frame.answer
      same = ap answer_elem k

      by : (r : Rate) → Sound (answered_at r a x s)
      by Uniform =
          record { uniforms = h.uniforms; varying = h.varying; own = h.own; result = as_elem _ same (sole_under gang (2 ^ width t.elem) (pow_pos (width t.elem)) x i); results = h.results; arrays = h.arrays }
      by Varying =
          record {
            uniforms = h.uniforms;
            varying = h.varying;
            own = h.own;
            result = h.result;
            results = λ p l. as_elem _ same
                (old_under (2 ^ width t.elem) (spread a x p) (s.results p) (spread_inside gang (2 ^ width t.elem) a x i p l)
                (back _ same (h.results p l)));
            arrays = h.arrays;
          }
