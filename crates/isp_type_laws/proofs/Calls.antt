-- A call over values that fit gives one that fits, and leaves its caller's stores so.
use Rattle.std.specs.Prelude.{◌≡◌, ℕ, zero, suc, ◌+◌, ◌-◌, ◌^◌, ◌<◌, ◌≤◌, List, [], ◌∷◌, length, take, Option, Some, None, Bool, true, false, nat_lt, if◌then◌else◌, slice_get}
use Rattle.std.specs.List.{All}
use Rattle.std.proofs.Common.{refl, sym, ap, ◌∙◌, subst, arith, pow_pos, inl, inr, lt-ltb, le-ltb, ltb-true}
use Rattle.std.proofs.lemmas.List.Elements.{All-head, All-tail}
use Rattle.std.proofs.lemmas.Option.{get_or_from_slice_get, slice_get_within}
use Rattle.isp_base.specs.Maps.{over}
use Rattle.isp_base.specs.Sets.{Mask}
use Rattle.isp_base.specs.Types.{gang_width, widest}
use Rattle.isp_base.specs.Values.{width}
use Rattle.isp_base.specs.declared.types.Elem.{Elem}
use Rattle.isp_base.specs.declared.types.Elem.TheVariants.{Bool as Truth}
use Rattle.isp_base.specs.declared.types.Rate.{Rate}
use Rattle.isp_base.specs.declared.types.Rate.TheVariants.{Uniform, Varying}
use Rattle.isp_base.specs.declared.types.Ty.{Ty}
use Rattle.isp_lex.specs.declared.fault.Fault.{Fault}
use Rattle.isp_typed.specs.Fine.{IsDeclared, FineFunction}
use Rattle.isp_typed.specs.Typed.{TFunction, Program}
use Rattle.isp_typed.specs.declared.variable.Holds.{Holds}
use Rattle.isp_typed.specs.declared.variable.Holds.TheVariants as hold
use Rattle.isp_typed.specs.declared.variable.Variable.{Variable}
use Rattle.isp_rates.specs.Breaches.{OfEach}
use Rattle.isp_rates.specs.Exits.{at_start, BlockBreach}
use Rattle.isp_rates.specs.Program.{FunctionBreach}
use Rattle.isp_meaning.specs.State.{State}
use Rattle.isp_meaning.specs.Payloads.{sole, spread}
use Rattle.isp_meaning.specs.Outcomes.{Res, Went, Trapped, Cut}
use Rattle.isp_meaning.specs.Expressions.{Passed, Values, Store}
use Rattle.isp_meaning.specs.Calls.{size_at, size_of, shared_sizes, store_or, frame_of, same_rate, is_value, one_passed, each_passed, begun, answer_at, answer_of, resumed, ended, called, calls_at}
use Rattle.isp_type_laws.proofs.Bounds.{Fits, on_under, old_under, sole_under, spread_inside}
use Rattle.isp_type_laws.proofs.Typing.{World, Stands, IsStore, SharedRate, SharedHeld, SharedBy, held_elem, elem_if, answer_elem, some_same, Left, Sound, ValFits, ResFits, left_of, gives_fits}
use Rattle.isp_type_laws.proofs.Expressions.{NoneOf, Passes, ArgumentsFit, CallsFit}
use Rattle.isp_type_laws.proofs.Statements.{block_fits}

-- ---- the local arrays that all instances share, in order

abbrev elems_at : Rate → Elem → List Elem → List Elem
elems_at Uniform e es = e ∷ es
elems_at Varying e es = es

abbrev elems_of : Holds → List Elem → List Elem
elems_of (hold.Value t) es = es
elems_of (hold.Given e) es = es
elems_of (hold.Local t n) es = elems_at t.rate t.elem es

abbrev shared_elems : List Variable → List Elem
shared_elems [] = []
shared_elems (v ∷ vs) = elems_of v.holds (shared_elems vs)

abbrev elem_get : List Elem → ℕ → Elem
elem_get [] k = Truth
elem_get (e ∷ es) zero = e
elem_get (e ∷ es) (suc k) = elem_get es k

-- a shared local array is the k-th of m
abbrev LocatedRate : Rate → Elem → List Elem → ℕ → ℕ → Type 0
LocatedRate Uniform e es k m = (elem_get es k ≡ e) × (k < m)
LocatedRate Varying e es k m = Unit {0}

abbrev LocatedHeld : Holds → List Elem → ℕ → ℕ → Type 0
LocatedHeld (hold.Value t) es k m = Unit {0}
LocatedHeld (hold.Given e) es k m = Unit {0}
LocatedHeld (hold.Local t n) es k m = LocatedRate t.rate t.elem es k m

abbrev Located : Option Variable → List Elem → ℕ → ℕ → Type 0
Located None es k m = Unit {0}
Located (Some v) es k m = LocatedHeld v.holds es k m

located_next : (o : Option Variable) (e : Elem) (es : List Elem) (k m : ℕ) → Located o es k m → Located o (e ∷ es) (suc k) (suc m)
located_next None e es k m h = tt
located_next (Some v) e es k m h = by v.holds h
  where
    rated : (r : Rate) (t : Elem) → LocatedRate r t es k m → LocatedRate r t (e ∷ es) (suc k) (suc m)
    rated Uniform t h = (h.0, omega (arith, h.1))
    rated Varying t h = tt

    by : (o : Holds) → LocatedHeld o es k m → LocatedHeld o (e ∷ es) (suc k) (suc m)
    by (hold.Value t) h = tt
    by (hold.Given t) h = tt
    by (hold.Local t n) h = rated t.rate t.elem h

located_first : (o : Holds) (es : List Elem) (ns : List ℕ) → LocatedHeld o (elems_of o es) 0 (length (size_of o ns))
located_first (hold.Value t) es ns = tt
located_first (hold.Given e) es ns = tt
located_first (hold.Local t n) es ns = by t.rate
  where
    by : (r : Rate) → LocatedRate r t.elem (elems_at r t.elem es) 0 (length (size_at r n ns))
    by Uniform = (refl, omega arith)
    by Varying = tt

located_later : (o : Option Variable) (x : Holds) (es : List Elem) (ks ms : List ℕ) → Located o es (length ks) (length ms) → Located o (elems_of x es) (length (size_of x ks)) (length (size_of x ms))
located_later o (hold.Value t) es ks ms h = h
located_later o (hold.Given e) es ks ms h = h
located_later o (hold.Local t n) es ks ms h = by t.rate
  where
    by : (r : Rate) → Located o (elems_at r t.elem es) (length (size_at r n ks)) (length (size_at r n ms))
    by Uniform = located_next o t.elem es (length ks) (length ms) h
    by Varying = h

located : (vs : List Variable) (v : ℕ) → Located (slice_get vs v) (shared_elems vs) (length (shared_sizes (take v vs))) (length (shared_sizes vs))
located [] v = tt
located (x ∷ vs) zero = located_first x.holds (shared_elems vs) (shared_sizes vs)
located (x ∷ vs) (suc v) = located_later (slice_get vs v) x.holds (shared_elems vs) (shared_sizes (take v vs)) (shared_sizes vs) (located vs v)

-- ---- what was passed, by the variable that takes it

abbrev FoundAt : ℕ → World → Option Variable → Option Passed → Type 0
FoundAt gang w None q = Unit {0}
FoundAt gang w (Some v) None = IsDeclared v
FoundAt gang w (Some v) (Some x) = Passes gang w v.holds x

rest_declared : (gang : ℕ) (w : World) (x : Variable) (vs : List Variable) → All IsDeclared (x ∷ vs) → ArgumentsFit gang w vs []
rest_declared gang w x [] h = tt
rest_declared gang w x (y ∷ vs) h = All-tail IsDeclared x (y ∷ vs) h

found_at : (gang : ℕ) (w : World) (vs : List Variable) (ps : List Passed) → ArgumentsFit gang w vs ps → (v : ℕ) → FoundAt gang w (slice_get vs v) (slice_get ps v)
found_at gang w [] [] h v = tt
found_at gang w [] (p ∷ ps) h v = absurd h
found_at gang w (x ∷ vs) [] h zero = All-head IsDeclared x vs h
found_at gang w (x ∷ vs) [] h (suc v) = found_at gang w vs [] (rest_declared gang w x vs h) v
found_at gang w (x ∷ vs) (p ∷ ps) h zero = h.0
found_at gang w (x ∷ vs) (p ∷ ps) h (suc v) = found_at gang w vs ps h.1 v

one_fits : (gang : ℕ) (w : World) (o : Option Variable) (q : Option Passed) → FoundAt gang w o q → one_passed o q < 2 ^ width (elem_if o)
one_fits gang w None q h = pow_pos 1
one_fits gang w (Some v) None h = pow_pos (width (held_elem v.holds))
one_fits gang w (Some v) (Some (Store b)) h = pow_pos (width (held_elem v.holds))
one_fits gang w (Some v) (Some (Values m)) h = by v.holds h
  where
    rated : (t : Elem) (r : Rate) → Fits gang t m → (if same_rate Uniform r then sole m else 0) < 2 ^ width t
    rated t Uniform h = sole_under gang (2 ^ width t) (pow_pos (width t)) m h
    rated t Varying h = pow_pos (width t)

    by : (o : Holds) → Passes gang w o (Values m) → (if is_value Uniform o then sole m else 0) < 2 ^ width (held_elem o)
    by (hold.Value t) h = rated t.elem t.rate h
    by (hold.Given e) h = pow_pos (width e)
    by (hold.Local t n) h = pow_pos (width t.elem)

each_fits : (gang : ℕ) (w : World) (o : Option Variable) (a : Mask) (q : Option Passed) → FoundAt gang w o q → (p : ℕ) → p < gang → each_passed o a q p < 2 ^ width (elem_if o)
each_fits gang w None a q h p l = pow_pos 1
each_fits gang w (Some v) a None h p l = pow_pos (width (held_elem v.holds))
each_fits gang w (Some v) a (Some (Store b)) h p l = pow_pos (width (held_elem v.holds))
each_fits gang w (Some v) a (Some (Values m)) h p l = by v.holds h
  where
    rated : (t : Elem) (r : Rate) → Fits gang t m → (if same_rate Varying r then over (spread a m) (λ q. 0) else (λ q. 0)) p < 2 ^ width t
    rated t Uniform h = pow_pos (width t)
    rated t Varying h = old_under (2 ^ width t) (spread a m p) 0 (spread_inside gang (2 ^ width t) a m h p l) (pow_pos (width t))

    by : (o : Holds) → Passes gang w o (Values m) → (if is_value Varying o then over (spread a m) (λ q. 0) else (λ q. 0)) p < 2 ^ width (held_elem o)
    by (hold.Value t) h = rated t.elem t.rate h
    by (hold.Given e) h = pow_pos (width e)
    by (hold.Local t n) h = pow_pos (width t.elem)

-- ---- a call: its world, how it begins, how it ends

-- the stores that were open, and the new ones
abbrev stores_of : World → TFunction → ℕ → Elem
stores_of w g b = if nat_lt b w.frame.opened then w.stores b else elem_get (shared_elems g.variables) (b - w.frame.opened)

abbrev world_of : World → TFunction → List Passed → World
world_of w g ps = record { frame = frame_of g ps w.frame; variables = g.variables; stores = stores_of w g }

module _ (gang : ℕ) (w : World) (g : TFunction) (ps : List Passed) where
  stores_old : (b : ℕ) → b < w.frame.opened → stores_of w g b ≡ w.stores b
  stores_old b l = ap (λ t. if t then w.stores b else elem_get (shared_elems g.variables) (b - w.frame.opened)) (lt-ltb b w.frame.opened l)

  stores_new : (k : ℕ) → stores_of w g (w.frame.opened + k) ≡ elem_get (shared_elems g.variables) k
  stores_new k =
      let past : w.frame.opened ≤ w.frame.opened + k = omega arith in
      let left : w.frame.opened + k - w.frame.opened ≡ k = omega arith in
      ap (λ t. if t then w.stores (w.frame.opened + k) else elem_get (shared_elems g.variables) (w.frame.opened + k - w.frame.opened)) (le-ltb (w.frame.opened + k) w.frame.opened past) ∙ ap (elem_get (shared_elems g.variables)) left

  store_stays : (b : ℕ) (e : Elem) → IsStore w b e → IsStore (world_of w g ps) b e
  store_stays b e h = (stores_old b h.1 ∙ h.0, omega (arith, h.1))

  stood : (o : Option Variable) (q : Option Passed) (k : ℕ) → FoundAt gang w o q → Located o (shared_elems g.variables) k (length (shared_sizes g.variables)) → SharedBy (world_of w g ps) (store_or q (w.frame.opened + k)) o
  stood None q k f l = tt
  stood (Some v) q k f l = by v.holds v.constant q f l
    where
      new : (r : Rate) (e : Elem) → LocatedRate r e (shared_elems g.variables) k (length (shared_sizes g.variables)) → SharedRate (world_of w g ps) (w.frame.opened + k) r e
      new Uniform e h = (stores_new k ∙ h.0, omega (arith, h.1))
      new Varying e h = tt

      by : (o : Holds) (c : Bool) (q : Option Passed) → FoundAt gang w (Some (record { holds = o; constant = c })) q
          → LocatedHeld o (shared_elems g.variables) k (length (shared_sizes g.variables))
          → SharedHeld (world_of w g ps) (store_or q (w.frame.opened + k)) o
      by (hold.Value t) c q f l = tt
      by (hold.Given e) c None f l = absurd f
      by (hold.Given e) c (Some (Values m)) f l = absurd f
      by (hold.Given e) c (Some (Store b)) f l = store_stays b e f
      by (hold.Local t n) c None f l = new t.rate t.elem l
      by (hold.Local t n) c (Some x) f l = absurd f

  module _ (passes : ArgumentsFit gang w g.variables ps) where
    stands_of : Stands (world_of w g ps)
    stands_of =
        record { shared = λ v. stood (slice_get g.variables v) (slice_get ps v) (length (shared_sizes (take v g.variables))) (found_at gang w g.variables ps passes v) (located g.variables v) }

    begun_fits : (a : Mask) (s : State) → Sound gang w s → Sound gang (world_of w g ps) (begun g ps w.frame a s)
    begun_fits a s h =
        record {
          uniforms = λ v. one_fits gang w (slice_get g.variables v) (slice_get ps v) (found_at gang w g.variables ps passes v);
          varying = λ v p l. each_fits gang w (slice_get g.variables v) a (slice_get ps v) (found_at gang w g.variables ps passes v) p l;
          own = λ v e p l. pow_pos (width (elem_if (slice_get g.variables v)));
          result = pow_pos (width (answer_elem g.answer));
          results = λ p l. pow_pos (width (answer_elem g.answer));
          arrays = λ b e. open_at b e (nat_lt b w.frame.opened);
        }
      where
        open_at : (b e : ℕ) (t : Bool) → (if t then s.arrays b else (λ e. 0)) e < 2 ^ width (if t then w.stores b else elem_get (shared_elems g.variables) (b - w.frame.opened))
        open_at b e true = h.arrays b e
        open_at b e false = pow_pos (width (elem_get (shared_elems g.variables) (b - w.frame.opened)))

  resumed_fits : (before s : State) → Sound gang w before → Sound gang (world_of w g ps) s → Sound gang w (resumed w.frame before s)
  resumed_fits before s h k = record { uniforms = h.uniforms; varying = h.varying; own = h.own; result = h.result; results = h.results; arrays = λ b e. open_at b e (nat_lt b w.frame.opened) refl }
    where
      open_at : (b e : ℕ) (t : Bool) → nat_lt b w.frame.opened ≡ t → (if t then s.arrays b else (λ e. 0)) e < 2 ^ width (w.stores b)
      open_at b e true is = subst (λ z. s.arrays b e < 2 ^ width z) (stores_old b (ltb-true b w.frame.opened is)) (k.arrays b e)
      open_at b e false is = pow_pos (width (w.stores b))

  left_behind : (s : State) → Left (world_of w g ps) s → Left w s
  left_behind s h b l e = subst (λ z. s.arrays b e < 2 ^ width z) (stores_old b l) (h b (omega (arith, l)) e)

  answer_fits : (t : Option Ty) (a : Mask) (s : State) → s.result < 2 ^ width (answer_elem t) → ((p : ℕ) → p < gang → s.results p < 2 ^ width (answer_elem t)) → Fits gang (answer_elem t) (answer_of t a s)
  answer_fits None a s h k = pow_pos 1
  answer_fits (Some t) a s h k = by t.rate
    where
      by : (r : Rate) → Fits gang t.elem (answer_at r a s)
      by Uniform = h
      by Varying = λ p l. on_under (2 ^ width t.elem) a s.results p (k p l)

  ended_fits : (a : Mask) (before : State) (v : Res) → Sound gang w before → ResFits gang (world_of w g ps) v → ValFits gang w (Fits gang (answer_elem g.answer)) (ended g.answer w.frame a before v)
  ended_fits a before (Went s _ b c r) h k = gives_fits gang w _ _ _ (answer_fits g.answer a s k.by.result k.by.results) (resumed_fits before s h k.by)
  ended_fits a before (Trapped t s) h k = record { by = left_behind s k.by }
  ended_fits a before (Cut s) h k = record { by = left_behind s k.by }

-- ---- calls of any depth

pub breach_of : {A : Type 0} (B : A → Fault → Type 0) (xs : List A) (k : ℕ) (x : A) → slice_get xs k ≡ Some x → (f : Fault) → B x f → OfEach B xs f
breach_of B [] k x e f b = absurd (cc)
breach_of B (y ∷ ys) zero x e f b = inl (subst (λ z. B z f) (sym (some_same y x e)) b)
breach_of B (y ∷ ys) (suc k) x e f b = inr (breach_of B ys k x e f b)

pub fine_of : {A : Type 0} (P : A → Type 0) (xs : List A) (k : ℕ) (x : A) → All P xs → slice_get xs k ≡ Some x → P x
fine_of P xs k x all e = subst P (get_or_from_slice_get xs k x x e) (all k x (slice_get_within xs k x e))

module _ (program : Program) (some : 0 < gang_width program.gang) (few : gang_width program.gang ≤ widest)
    (fine : All (FineFunction program.functions) program.functions) (clean : NoneOf (OfEach (FunctionBreach program.functions) program.functions))
    (most : ℕ) where
  each_fine : (k : ℕ) (g : TFunction) → slice_get program.functions k ≡ Some g → FineFunction program.functions g
  each_fine k g e = fine_of (FineFunction program.functions) program.functions k g fine e

  each_clean : (k : ℕ) (g : TFunction) → slice_get program.functions k ≡ Some g → NoneOf (BlockBreach program.functions g.answer at_start g.body)
  each_clean k g e = λ f b. clean f (breach_of (FunctionBreach program.functions) program.functions k g e f (inr b))

  pub calls_fit : (left : ℕ) → CallsFit (gang_width program.gang) program.functions (calls_at program most left)
  calls_fit zero k g e sp a ps w s i h = record { by = left_of (gang_width program.gang) w s h }
  calls_fit (suc left) k g e sp a ps w s i h =
      subst (λ o. ValFits (gang_width program.gang) w (Fits (gang_width program.gang) (answer_elem g.answer))
      (called program most (calls_at program most left) o a ps w.frame s)) (sym e)
      (ended_fits (gang_width program.gang) w g ps a s _ h
      (block_fits (gang_width program.gang) some few program.functions each_fine (calls_at program most left) (calls_fit left) (world_of w g ps)
      (stands_of (gang_width program.gang) w g ps i) most g.body (each_fine k g e).body at_start (each_clean k g e) a _
      (begun_fits (gang_width program.gang) w g ps i a s h)))
