-- An instance outside the set has no value of an expression, and nothing of it changes: its variables, its part of the
-- arrays of which each has its own, and what it returned.
use Rattle.std.specs.Prelude.{◌≡◌, ℕ, List, [], ◌∷◌, Option, Some, None, Bool, true, false, nat_eq, if◌then◌else◌, slice_get, zero, suc}
use Rattle.std.proofs.Common.{refl, sym, ap, ◌∙◌, subst, ◌≢◌, ⊎_elim, eq-eqb}
use Rattle.std.proofs.lemmas.Bool.{ne_eqb, cond-true, cond-false, cases_eq}
use Rattle.isp_base.specs.Access.{is_zero, element}
use Rattle.isp_base.specs.Sets.{Mask, nobody, any, lowest}
use Rattle.isp_base.specs.Maps.{Lanes, over, or_old, each1, each2, holds, where_true, put}
use Rattle.isp_base.specs.declared.types.Elem.{Elem}
use Rattle.isp_base.specs.declared.types.Rate.{Rate}
use Rattle.isp_base.specs.declared.types.Rate.TheVariants.{Uniform, Varying}
use Rattle.isp_base.specs.declared.types.Span.{Span}
use Rattle.isp_base.specs.declared.types.Ty.{Ty}
use Rattle.isp_base.specs.declared.trap.TrapKind.{TrapKind}
use Rattle.isp_base.specs.declared.trap.TrapKind.TheVariants.{Divide, Index}
use Rattle.isp_typed.specs.Typed.{TExpr, t_constant, t_program_index, t_place, t_convert, t_cast, t_unary, t_binary, t_compare, t_logic, t_choose, t_call, t_library}
use Rattle.isp_typed.specs.Typed.{t_packed_store, t_packed_load, TPlace, t_variable, t_element, TBase, t_whole, t_from, TArgument, t_by_value, t_by_name, TCall, t_called}
use Rattle.isp_typed.specs.Typed.{TArguments, t_no_arguments, t_argument_then, TExprs, t_no_exprs, t_expr_then, place_span}
use Rattle.isp_typed.specs.Typed.{TFunction, Program}
use Rattle.isp_typed.specs.declared.library.Library.{Library}
use Rattle.isp_typed.specs.declared.library.Library.TheVariants as library
use Rattle.isp_typed.specs.declared.variable.Logic.{Logic}
use Rattle.isp_meaning.specs.State.{State, Frame, tick, extent}
use Rattle.isp_meaning.specs.Payloads.{Payload, One, Each, is_true, is_false, spread, mapped, joined, kept_by, selected, nothing, offender, first_of_two}
use Rattle.isp_meaning.specs.Outcomes.{Val, Gives, Fails, Stops, Res, Went, Trapped, Cut, bind, checked, if_so, value_unless_empty}
use Rattle.isp_meaning.specs.Places.{Place, Variable, Element, variable, written, own_stored, elements, with_elements, outside, held, kept}
use Rattle.isp_meaning.specs.Library.{library_value, argument, chosen_one, chosen_by}
use Rattle.isp_base.specs.Cross.{packed_outside}
use Rattle.isp_meaning.specs.Expressions.{Passed, Calls, needs, settled, base_array, value, place, first_element, values, call, arguments, passed}
use Rattle.isp_meaning.specs.Simple.{cleared}
use Rattle.isp_meaning.specs.Calls.{ended, called, calls_at, answer_of, answer_at}
use Rattle.isp_meaning.specs.Laws.{Untouched}

-- ---- functions changed at one place, as one instance sees them

put_same : {A : Type 0} (f : ℕ → A) (d : ℕ) (x : A) → put f d x d ≡ x
put_same f d x = cond-true (nat_eq d d) x (f d) (eq-eqb d d refl)

put_other : {A : Type 0} (f : ℕ → A) (d : ℕ) (x : A) (r : ℕ) → r ≢ d → put f d x r ≡ f r
put_other f d x r ne = cond-false (nat_eq r d) x (f r) (ne_eqb r d ne)

put_lane : (f : ℕ → Lanes) (d : ℕ) (y : Lanes) (p w : ℕ) → y p ≡ f d p → put f d y w p ≡ f w p
put_lane f d y p w h =
    ⊎_elim (λ e. subst (λ z. put f d y z p ≡ f z p) (sym e) (ap (λ g. g p) (put_same f d y) ∙ h)) (λ ne. ap (λ g. g p) (put_other f d y w ne)) (cases_eq w d)

put_own : (f : ℕ → ℕ → Lanes) (d : ℕ) (y : ℕ → Lanes) (p w e : ℕ) → y e p ≡ f d e p → put f d y w e p ≡ f w e p
put_own f d y p w e h =
    ⊎_elim (λ q. subst (λ z. put f d y z e p ≡ f z e p) (sym q) (ap (λ g. g e p) (put_same f d y) ∙ h)) (λ ne. ap (λ g. g e p) (put_other f d y w ne)) (cases_eq w d)

module _ (p : ℕ) where
  -- ---- no value

  abbrev pub Absent : Payload → Type 0
  Absent (One x) = Unit {0}
  Absent (Each x) = x p ≡ None

  abbrev pub AbsentPlace : Place → Type 0
  AbsentPlace (Variable v t) = Unit {0}
  AbsentPlace (Element b t i) = Absent i

  abbrev pub AbsentAll : List Payload → Type 0
  AbsentAll [] = Unit {0}
  AbsentAll (m ∷ ms) = Absent m × AbsentAll ms

  on_none : (a : Mask) (x : ℕ) → a p ≡ false → (if a p then Some x else None) ≡ None
  on_none a x h = ap (λ t. if t then Some x else None) h

  pub spread_none : (a : Mask) (m : Payload) → a p ≡ false → Absent m → spread a m p ≡ None
  spread_none a (One x) h k = on_none a x h
  spread_none a (Each x) h k = k

  pub mapped_absent : (f : ℕ → ℕ) (m : Payload) → Absent m → Absent (mapped f m)
  mapped_absent f (One x) k = tt
  mapped_absent f (Each x) k = ap (each1 f) k

  pub joined_absent : (f : ℕ → ℕ → ℕ) (a : Mask) (m n : Payload) → a p ≡ false → Absent m → Absent (joined f a m n)
  joined_absent f a (One x) (One y) h k = tt
  joined_absent f a (One x) (Each y) h k = ap (λ z. each2 f z (y p)) (on_none a x h)
  joined_absent f a (Each x) n h k = ap (λ z. each2 f z (spread a n p)) k

  pub kept_off : (f : ℕ → Bool) (a : Mask) (m : Payload) → a p ≡ false → Absent m → kept_by f a m p ≡ false
  kept_off f a (One x) h k = by (f x)
    where
      by : (t : Bool) → (if t then a else nobody) p ≡ false
      by true = h
      by false = refl
  kept_off f a (Each x) h k = ap (holds f) k

  layer_none : (x y : Option ℕ) → x ≡ None → y ≡ None → first_of_two x y ≡ None
  layer_none x y h k = ap (λ z. first_of_two z y) h ∙ k

  settled_absent : (l : Logic) (a : Mask) (m n : Payload) → a p ≡ false → Absent m → Absent n → Absent (settled l a m n)
  settled_absent l a (One x) n h k j = by (needs l x)
    where
      by : (t : Bool) → Absent (if t then n else One x)
      by true = j
      by false = tt
  settled_absent l a (Each x) n h k j = layer_none _ (x p) (spread_none (where_true (needs l) x) n (ap (holds (needs l)) k) j) k

  selected_absent : (a : Mask) (c m n : Payload) → a p ≡ false → Absent c → Absent m → Absent n → Absent (selected a c m n)
  selected_absent a (One c) m n h k i j = by (is_true c)
    where
      by : (t : Bool) → Absent (if t then m else n)
      by true = i
      by false = j
  selected_absent a (Each c) m n h k i j =
      layer_none _ _ (spread_none (where_true is_true c) m (ap (holds is_true) k) i) (spread_none (where_true is_false c) n (ap (holds is_false) k) j)

  chosen_absent : (a : Mask) (c m n : Payload) → Absent c → Absent m → Absent n → Absent (chosen_by a c m n)
  chosen_absent a (One c) m n k i j = by (is_true c)
    where
      by : (t : Bool) → Absent (if t then m else n)
      by true = i
      by false = j
  chosen_absent a (Each c) m n k i j = ap (λ z. chosen_one z (spread a m p) (spread a n p)) k

  library_absent : (gang : ℕ) (t : Elem) (a : Mask) (f : Library) (x y z : Payload) → a p ≡ false → Absent x → Absent y → Absent z → Absent (library_value gang t a f x y z)
  library_absent gang t a library.ReduceAdd x y z h i j k = tt
  library_absent gang t a library.ReduceMin x y z h i j k = tt
  library_absent gang t a library.ReduceMax x y z h i j k = tt
  library_absent gang t a library.ReduceEqual x y z h i j k = tt
  library_absent gang t a library.Any x y z h i j k = tt
  library_absent gang t a library.All x y z h i j k = tt
  library_absent gang t a library.None x y z h i j k = tt
  library_absent gang t a library.ScanAdd x y z h i j k = on_none a _ h
  library_absent gang t a library.ScanAnd x y z h i j k = on_none a _ h
  library_absent gang t a library.ScanOr x y z h i j k = on_none a _ h
  library_absent gang t a library.Broadcast x y z h i j k = on_none a _ h
  library_absent gang t a library.Rotate x y z h i j k = on_none a _ h
  library_absent gang t a library.Shift x y z h i j k = on_none a _ h
  library_absent gang t a library.Shuffle x y z h i j k = on_none a _ h
  library_absent gang t a library.ShuffleTwo x y z h i j k = on_none a _ h
  library_absent gang t a library.Extract x y z h i j k = tt
  library_absent gang t a library.Insert x y z h i j k = on_none a _ h
  library_absent gang t a library.Min x y z h i j k = joined_absent _ a x y h i
  library_absent gang t a library.Max x y z h i j k = joined_absent _ a x y h i
  library_absent gang t a library.Clamp x y z h i j k = joined_absent _ a (joined _ a x y) z h (joined_absent _ a x y h i)
  library_absent gang t a library.Abs x y z h i j k = mapped_absent _ x i
  library_absent gang t a library.Select x y z h i j k = chosen_absent a x y z i j k

  argument_absent : (ms : List Payload) (k : ℕ) → AbsentAll ms → Absent (argument ms k)
  argument_absent [] k h = tt
  argument_absent (m ∷ ms) zero h = h.0
  argument_absent (m ∷ ms) (suc k) h = argument_absent ms k h.1

  -- ---- nothing changes

  pub same : (s : State) → Untouched p s s
  same s = (λ v. refl, λ v e. refl, refl)

  pub touch_on : (s s1 s2 : State) → Untouched p s s1 → Untouched p s1 s2 → Untouched p s s2
  touch_on s s1 s2 h k = (λ v. k.0 v ∙ h.0 v, λ v e. k.1 v e ∙ h.1 v e, k.2 ∙ h.2)

  pub written_off : (r : Rate) (v : ℕ) (a : Mask) (m : Payload) (s : State) → a p ≡ false → Absent m → Untouched p s (written r v a m s)
  written_off Uniform v a m s h k = same s
  written_off Varying v a m s h k =
      (λ w. put_lane s.varying v (over (spread a m) (s.varying v)) p w (ap (λ z. or_old z (s.varying v p)) (spread_none a m h k)), λ w e. refl, refl)

  pub kept_off_at : (gang : ℕ) (frame : Frame) (q : Place) (a : Mask) (m : Payload) (s : State) → a p ≡ false → AbsentPlace q → Absent m → Untouched p s (kept gang frame q a m s)
  kept_off_at gang frame (Variable v t) a m s h i k = written_off t.rate v a m s h k
  kept_off_at gang frame (Element b t i) a m s h j k = by b.ty.rate
    where
      by : (r : Rate) → Untouched p s (with_elements frame b t i a gang r m s)
      by Uniform = same s
      by Varying = (
        λ w. refl,
        λ w e. put_own s.own b.number (own_stored (spread a (mapped (element t) i)) (spread a m) (s.own b.number)) p w e
            (ap (λ z. if holds (λ x. nat_eq x e) z then or_old (spread a m p) (s.own b.number e p) else s.own b.number e p)
            (spread_none a (mapped (element t) i) h (mapped_absent (element t) i j))),
        refl,
      )

  pub held_absent : (gang : ℕ) (frame : Frame) (q : Place) (a : Mask) (s : State) → a p ≡ false → AbsentPlace q → Absent (held gang frame q a s)
  held_absent gang frame (Variable v t) a s h k = by t.rate
    where
      by : (r : Rate) → Absent (variable r v a s)
      by Uniform = tt
      by Varying = on_none a (s.varying v p) h
  held_absent gang frame (Element b t i) a s h k = by b.ty.rate
    where
      by : (r : Rate) → Absent (elements frame b t i a r s)
      by Uniform = mapped_absent _ i k
      by Varying = ap (each1 (λ x. s.own b.number (element t x) p)) (spread_none a i h k)

  pub cleared_off : (frame : Frame) (r : Rate) (v : ℕ) (a : Mask) (s : State) → a p ≡ false → Untouched p s (cleared frame r v a s)
  cleared_off frame Uniform v a s h = same s
  cleared_off frame Varying v a s h =
      (λ w. refl, λ w e. put_own s.own v (λ d q. if a q then 0 else s.own v d q) p w e (ap (λ t. if t then 0 else s.own v e p) h), refl)

  -- ---- outcomes

  abbrev pub Off : {A : Type 0} → (A → Type 0) → State → Val A → Type 0
  Off Q s (Gives x s1) = Q x × Untouched p s s1
  Off Q s (Fails t s1) = Unit {0}
  Off Q s (Stops s1) = Unit {0}

  abbrev pub Any : {A : Type 0} → A → Type 0
  Any x = Unit {0}

  off_on : {A : Type 0} (Q : A → Type 0) (s s1 : State) (v : Val A) → Untouched p s s1 → Off Q s1 v → Off Q s v
  off_on Q s s1 (Gives x s2) h k = (k.0, touch_on s s1 s2 h k.1)
  off_on Q s s1 (Fails t s2) h k = tt
  off_on Q s s1 (Stops s2) h k = tt

  pub bind_off : {A B : Type 0} (Q : A → Type 0) (R : B → Type 0) (s : State) (v : Val A) (go : A → State → Val B) → Off Q s v → ((x : A) (s1 : State) → Q x → Off R s1 (go x s1)) → Off R s (bind v go)
  bind_off Q R s (Gives x s1) go h f = off_on R s s1 (go x s1) h.1 (f x s1 h.0)
  bind_off Q R s (Fails t s1) go h f = tt
  bind_off Q R s (Stops s1) go h f = tt

  pub checked_off : {A : Type 0} (Q : A → Type 0) (o : Option ℕ) (k : TrapKind) (pl : Span) (s : State) (x : A) → Q x → Off Q s (checked o k pl s x)
  checked_off Q None k pl s x h = (h, same s)
  checked_off Q (Some i) k pl s x h = tt

  unless_off : (gang : ℕ) (a : Mask) (s : State) (f : Mask → State → Val Payload) → Off Absent s (f a s) → Off Absent s (value_unless_empty gang a s f)
  unless_off gang a s f h = by (any gang a)
    where
      by : (t : Bool) → Off Absent s (if_so t (f a) (Gives nothing) s)
      by true = h
      by false = (refl, same s)

abbrev pub CallsOff : Calls → Type 0
CallsOff calls = (f : ℕ) (sp : Span) (a : Mask) (xs : List Passed) (frame : Frame) (s : State) (p : ℕ) → a p ≡ false → Off p (Absent p) s (calls f sp a xs frame s)

module _ (gang : ℕ) (frame : Frame) (calls : Calls) (off : CallsOff calls) (p : ℕ) where
  mutual
    pub value_off : (x : TExpr) (a : Mask) (s : State) → a p ≡ false → Off p (Absent p) s (value gang frame calls x a s)
    value_off (t_constant v sp) a s h = (tt, same p s)
    value_off (t_program_index sp) a s h = (on_none p a _ h, same p s)
    value_off (t_place q) a s h =
        bind_off p (AbsentPlace p) (Absent p) s _ _ (place_off q a s h) (λ r s1 k. checked_off p (Absent p) (outside gang frame r a) Index (place_span q) s1 _ (held_absent p gang frame r a s1 h k))
    value_off (t_convert e x) a s h = bind_off p (Absent p) (Absent p) s _ _ (value_off x a s h) (λ m s1 k. (mapped_absent p _ m k, same p s1))
    value_off (t_cast x t sp) a s h = value_off x a (tick s) h
    value_off (t_unary op x t sp) a s h = bind_off p (Absent p) (Absent p) s _ _ (value_off x a (tick s) h) (λ m s1 k. (mapped_absent p _ m k, same p s1))
    value_off (t_binary op x y t sp) a s h =
        bind_off p (Absent p) (Absent p) s _ _ (value_off x a (tick s) h)
        (λ m s1 k. bind_off p (Absent p) (Absent p) s1 _ _ (value_off y a s1 h)
        (λ n s2 j. checked_off p (Absent p) (offender gang (is_zero op t.elem) a n) Divide sp s2 _ (joined_absent p _ a m n h k)))
    value_off (t_compare c x y r sp) a s h =
        bind_off p (Absent p) (Absent p) s _ _ (value_off x a (tick s) h) (λ m s1 k. bind_off p (Absent p) (Absent p) s1 _ _ (value_off y a s1 h) (λ n s2 j. (joined_absent p _ a m n h k, same p s2)))
    value_off (t_logic l x y r sp) a s h =
        bind_off p (Absent p) (Absent p) s _ _ (value_off x a (tick s) h)
        (λ m s1 k. bind_off p (Absent p) (Absent p) s1 _ _
        (unless_off p gang (kept_by (needs l) a m) s1 (value gang frame calls y)
        (value_off y (kept_by (needs l) a m) s1 (kept_off p (needs l) a m h k))) (λ n s2 j. (settled_absent p l a m n h k j, same p s2)))
    value_off (t_choose c x y t sp) a s h =
        bind_off p (Absent p) (Absent p) s _ _ (value_off c a (tick s) h)
        (λ k s1 kc. bind_off p (Absent p) (Absent p) s1 _ _
        (unless_off p gang (kept_by is_true a k) s1 (value gang frame calls x)
        (value_off x (kept_by is_true a k) s1 (kept_off p is_true a k h kc)))
        (λ m s2 i. bind_off p (Absent p) (Absent p) s2 _ _
        (unless_off p gang (kept_by is_false a k) s2 (value gang frame calls y)
        (value_off y (kept_by is_false a k) s2 (kept_off p is_false a k h kc))) (λ n s3 j. (selected_absent p a k m n h kc i j, same p s3))))
    value_off (t_call c t) a s h = call_off c a s h
    value_off (t_library f e xs t sp) a s h =
        bind_off p (AbsentAll p) (Absent p) s _ _ (values_off xs a (tick s) h)
        (λ ms s1 k. (
          library_absent p gang e a f (argument ms 0) (argument ms 1) (argument ms 2) h (argument_absent p ms 0 k)
              (argument_absent p ms 1 k) (argument_absent p ms 2 k),
          same p s1,
        ))
    value_off (t_packed_store b x sp) a s h =
        bind_off p (Any p) (Absent p) s _ _ (first_off b a (tick s) h)
        (λ z s1 _. bind_off p (Absent p) (Absent p) s1 _ _ (value_off x a s1 h)
        (λ m s2 k. bind_off p (Absent p) (Absent p) s2 _ _
        (checked_off p (Absent p) (lowest gang (packed_outside (extent frame (base_array b)) z a)) Index sp s2 m k) (λ n s3 j. (tt, same p s3))))
    value_off (t_packed_load b v sp) a s h =
        bind_off p (Any p) (Absent p) s _ _ (first_off b a (tick s) h)
        (λ z s1 _. bind_off p (Absent p) (Absent p) s1 _ _
        (checked_off p (Absent p) (lowest gang (packed_outside (extent frame (base_array b)) z a)) Index sp (tick s1) _ (on_none p a _ h))
        (λ n s2 j. (tt, written_off p Varying v a n s2 h j)))

    pub place_off : (q : TPlace) (a : Mask) (s : State) → a p ≡ false → Off p (AbsentPlace p) s (place gang frame calls q a s)
    place_off (t_variable v t sp) a s h = (tt, same p s)
    place_off (t_element b i t sp) a s h = bind_off p (Absent p) (AbsentPlace p) s _ _ (value_off i a (tick s) h) (λ m s1 k. (k, same p s1))

    first_off : (b : TBase) (a : Mask) (s : State) → a p ≡ false → Off p (Any p) s (first_element gang frame calls b a s)
    first_off (t_whole b sp) a s h = (tt, same p s)
    first_off (t_from b i sp) a s h = bind_off p (Absent p) (Any p) s _ _ (value_off i a (tick s) h) (λ m s1 k. (tt, same p s1))

    pub values_off : (xs : TExprs) (a : Mask) (s : State) → a p ≡ false → Off p (AbsentAll p) s (values gang frame calls xs a s)
    values_off t_no_exprs a s h = (tt, same p s)
    values_off (t_expr_then x xs) a s h =
        bind_off p (Absent p) (AbsentAll p) s _ _ (value_off x a s h) (λ m s1 k. bind_off p (AbsentAll p) (AbsentAll p) s1 _ _ (values_off xs a s1 h) (λ ms s2 j. ((k, j), same p s2)))

    pub call_off : (c : TCall) (a : Mask) (s : State) → a p ≡ false → Off p (Absent p) s (call gang frame calls c a s)
    call_off (t_called f xs sp) a s h = bind_off p (Any p) (Absent p) s _ _ (arguments_off xs a (tick s) h) (λ ps s1 _. off f sp a ps frame s1 p h)

    arguments_off : (xs : TArguments) (a : Mask) (s : State) → a p ≡ false → Off p (Any p) s (arguments gang frame calls xs a s)
    arguments_off t_no_arguments a s h = (tt, same p s)
    arguments_off (t_argument_then x xs) a s h =
        bind_off p (Any p) (Any p) s _ _ (passed_off x a s h) (λ m s1 _. bind_off p (Any p) (Any p) s1 _ _ (arguments_off xs a s1 h) (λ ms s2 _. (tt, same p s2)))

    passed_off : (x : TArgument) (a : Mask) (s : State) → a p ≡ false → Off p (Any p) s (passed gang frame calls x a s)
    passed_off (t_by_value x) a s h = bind_off p (Absent p) (Any p) s _ _ (value_off x a s h) (λ m s1 k. (tt, same p s1))
    passed_off (t_by_name b sp) a s h = (tt, same p s)

-- a call gives the caller its variables back
answer_absent : (p : ℕ) (t : Option Ty) (a : Mask) (s : State) → a p ≡ false → Absent p (answer_of t a s)
answer_absent p None a s h = tt
answer_absent p (Some t) a s h = by t.rate
  where
    by : (r : Rate) → Absent p (answer_at r a s)
    by Uniform = tt
    by Varying = on_none p a (s.results p) h

ended_off : (p : ℕ) (t : Option Ty) (frame : Frame) (a : Mask) (before : State) (v : Res) → a p ≡ false → Off p (Absent p) before (ended t frame a before v)
ended_off p t frame a before (Went s g b c r) h = (answer_absent p t a s h, same p before)
ended_off p t frame a before (Trapped x s) h = tt
ended_off p t frame a before (Cut s) h = tt

pub calls_off : (program : Program) (most left : ℕ) → CallsOff (calls_at program most left)
calls_off program most zero f sp a xs frame s p h = tt
calls_off program most (suc left) f sp a xs frame s p h = by (slice_get program.functions f)
  where
    by : (o : Option TFunction) → Off p (Absent p) s (called program most (calls_at program most left) o a xs frame s)
    by None = tt
    by (Some g) = ended_off p g.answer frame a s _ h
