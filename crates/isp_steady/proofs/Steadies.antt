-- A steady expression gives one value to every member, or traps for the lowest: what is told without a set.
use Rattle.std.specs.Prelude.{◌≡◌, ℕ, zero, suc, List, [], ◌∷◌, Option, Some, None, Bool, true, false, not, if◌then◌else◌}
use Rattle.std.proofs.Common.{refl, sym, ap, ◌∙◌, subst}
use Rattle.std.proofs.Math.Path.{fun_ext}
use Rattle.isp_base.specs.Access.{is_zero, is_outside, element}
use Rattle.isp_base.specs.Maps.{Lanes, on}
use Rattle.isp_base.specs.Sets.{Mask, any}
use Rattle.isp_base.specs.Values.{op_bits}
use Rattle.isp_base.specs.declared.trap.TrapKind.{TrapKind}
use Rattle.isp_base.specs.declared.trap.TrapKind.TheVariants.{Divide, Index}
use Rattle.isp_base.specs.declared.types.Elem.{Elem}
use Rattle.isp_base.specs.declared.types.Rate.{Rate}
use Rattle.isp_base.specs.declared.types.Rate.TheVariants.{Uniform, Varying}
use Rattle.isp_base.specs.declared.types.Span.{Span}
use Rattle.isp_typed.specs.Typed.{TExpr, t_constant, t_program_index, t_place, t_convert, t_cast, t_unary, t_binary, t_compare, t_logic, t_choose, t_call, t_library}
use Rattle.isp_typed.specs.Typed.{t_packed_store, t_packed_load, TPlace, t_variable, t_element, TExprs, t_no_exprs, t_expr_then, type_of}
use Rattle.isp_typed.specs.declared.library.Library.{Library}
use Rattle.isp_typed.specs.declared.library.Library.TheVariants as library
use Rattle.isp_typed.specs.declared.variable.ArrayVariable.{ArrayVariable}
use Rattle.isp_typed.specs.declared.variable.Logic.{Logic}
use Rattle.isp_meaning.specs.State.{State, Frame, tick, extent}
use Rattle.isp_meaning.specs.Payloads.{Payload, is_true, is_false, nothing, if_fails, kept_by, selected}
use Rattle.isp_meaning.specs.Outcomes.{Val, Gives, Fails, Stops, bind, checked, value_unless_empty}
use Rattle.isp_meaning.specs.Places.{Element, outside, elements, variable}
use Rattle.isp_meaning.specs.Library.{library_value, argument}
use Rattle.isp_meaning.specs.Expressions.{Calls, value, values, needs, settled}
use Rattle.isp_steady.specs.Known.{Known, Unknown, Steady, Linear, IsAsKnown}
use Rattle.isp_steady.specs.Steady.{steady_read, is_shared, by_itself, steady, steady_place, all_steady}
use Rattle.isp_steady.specs.Values.{IsOne, Sole, Comes, Traps, ComesTo, SteadyGivesOne}
use Rattle.isp_steady.proofs.Ones.{both, mapped_one, joined_one, kept_one, offender_one, settled_needed, settled_left, selected_first, selected_second, chosen_of}
use Rattle.isp_steady.proofs.Told.{then_one, checked_one, nth, library_one, read_one, sole, sole_place, soles, IsBy, bind_by, bind_bind, bind_same, checked_fails, later_all, later_none}
use Rattle.isp_steady.proofs.Alones.{alone_steady}

module _ (gang : ℕ) (frame : Frame) (calls : Calls) (known : ℕ → Known) (scalars : ℕ → ℕ) (a : Mask) (some : any gang a ≡ true) (there : ℕ → Lanes)
    (have : (v : ℕ) → known v ≡ Steady → (p : ℕ) → a p ≡ true → there v p ≡ scalars v) where
  abbrev pub told : TExpr → State → Sole
  told = sole frame scalars

  abbrev pub Is : Sole → Val Payload → Type 0
  Is = IsBy gang a there (IsOne a)

  bind_is : (o : Sole) (v : Val Payload) (go : ℕ → State → Sole) (does : Payload → State → Val Payload) → Is o v
      → ((u : ℕ) (m : Payload) (s : State) → IsOne a u m → s.varying ≡ there → Is (go u s) (does m s)) → Is (then_one o go) (bind v does)
  bind_is = bind_by gang a there (IsOne a) (IsOne a)

  abbrev pub IsTold : TExpr → Type 0
  IsTold x = (s : State) → s.varying ≡ there → Is (told x s) (value gang frame calls x a s)

  -- the payload is made another that has the same value
  become : (o : Sole) (v : Val Payload) (g : Payload → Payload) → ((w : ℕ) (n : Payload) → IsOne a w n → IsOne a w (g n)) → Is o v → Is o (bind v (λ n s2. Gives (g n) s2))
  become (Comes u s) (Gives m s1) g k h = (k u m h.0, h.1, h.2)
  become (Comes u s) (Fails t s1) g k h = absurd h
  become (Comes u s) (Stops s1) g k h = absurd h
  become (Traps kind sp s) v g k h = ap (λ z. bind z (λ n s2. Gives (g n) s2)) h

  checked_is : (b : Bool) (o : Option ℕ) (f : ℕ → Bool) (kind : TrapKind) (sp : Span) (s : State) (u : ℕ) (m : Payload) → o ≡ if_fails gang f a b → IsOne a u m → s.varying ≡ there
      → Is (checked_one b kind sp s u) (checked o kind sp s m)
  checked_is true o f kind sp s u m e i h = ap (λ z. checked z kind sp s m) e ∙ checked_fails gang f a kind sp s m some
  checked_is false o f kind sp s u m e i h = subst (λ z. Is (Comes u s) (checked z kind sp s m)) (sym e) (i, refl, h)

  -- ---- later operands

  logic_is : (l : Logic) (u : ℕ) (m : Payload) (y : TExpr) → IsOne a u m → IsTold y → (s : State) → s.varying ≡ there → (b : Bool) → needs l u ≡ b
      → Is (if b then told y s else Comes u s) (bind (value_unless_empty gang (kept_by (needs l) a m) s (value gang frame calls y)) (λ n s2. Gives (settled l a m n) s2))
  logic_is l u m y i t s h true e =
      let f = value gang frame calls y in
      let is = ap (λ b. value_unless_empty gang b s f) (kept_one a (needs l) u m i) ∙ later_all gang a some (needs l u) f s e in
      subst (λ v. Is (told y s) (bind v (λ n s2. Gives (settled l a m n) s2))) (sym is) (become (told y s) (f a s) (settled l a m) (λ w n j. settled_needed a l u w m n i e j) (t s h))
  logic_is l u m y i t s h false e =
      let f = value gang frame calls y in
      let is = ap (λ b. value_unless_empty gang b s f) (kept_one a (needs l) u m i) ∙ later_none gang a some (needs l u) f s e in
      subst (λ v. Is (Comes u s) (bind v (λ n s2. Gives (settled l a m n) s2))) (sym is) (settled_left a l u m i e, refl, h)

  choose_is : (c : ℕ) (k : Payload) (x y : TExpr) → IsOne a c k → IsTold x → IsTold y → (s : State) → s.varying ≡ there → (b : Bool) → is_true c ≡ b
      → Is (if b then told x s else told y s) (bind (value_unless_empty gang (kept_by is_true a k) s (value gang frame calls x))
      (λ m s2. bind (value_unless_empty gang (kept_by is_false a k) s2 (value gang frame calls y)) (λ n s3. Gives (selected a k m n) s3)))
  choose_is c k x y i t u s h true e =
      let f = value gang frame calls x in
      let g = value gang frame calls y in
      let first = ap (λ b. value_unless_empty gang b s f) (kept_one a is_true c k i) ∙ later_all gang a some (is_true c) f s e in
      let behind : (m : Payload) (s2 : State) → bind (value_unless_empty gang (kept_by is_false a k) s2 g) (λ n s3. Gives (selected a k m n) s3) ≡ Gives (selected a k m nothing) s2 =
      λ m s2. ap (λ v. bind v (λ n s3. Gives (selected a k m n) s3)) (ap (λ b. value_unless_empty gang b s2 g) (kept_one a is_false c k i) ∙ later_none gang a some (is_false c) g s2 (ap not e)) in
      subst (Is (told x s)) (sym (ap (λ v. bind v (λ m s2. bind (value_unless_empty gang (kept_by is_false a k) s2 g) (λ n s3. Gives (selected a k m n) s3))) first
      ∙ bind_same (f a s) _ (λ m s2. Gives (selected a k m nothing) s2) behind))
      (become (told x s) (f a s) (λ m. selected a k m nothing) (λ w m j. selected_first a c w k m i e j) (t s h))
  choose_is c k x y i t u s h false e =
      let f = value gang frame calls x in
      let g = value gang frame calls y in
      let first = ap (λ b. value_unless_empty gang b s f) (kept_one a is_true c k i) ∙ later_none gang a some (is_true c) f s e in
      let behind = ap (λ b. value_unless_empty gang b s g) (kept_one a is_false c k i) ∙ later_all gang a some (is_false c) g s (ap not e) in
      subst (Is (told y s)) (sym (ap (λ v. bind v (λ m s2. bind (value_unless_empty gang (kept_by is_false a k) s2 g) (λ n s3. Gives (selected a k m n) s3))) first
      ∙ ap (λ v. bind v (λ n s3. Gives (selected a k nothing n) s3)) behind))
      (become (told y s) (g a s) (selected a k nothing) (λ w n j. selected_second a c w k n i e j) (u s h))

  -- ---- the library

  abbrev AreOnes : List ℕ → List Payload → Type 0
  AreOnes [] [] = Unit {0}
  AreOnes [] (m ∷ ms) = ⊥
  AreOnes (u ∷ us) [] = ⊥
  AreOnes (u ∷ us) (m ∷ ms) = IsOne a u m × AreOnes us ms

  argument_one : (us : List ℕ) (ms : List Payload) → AreOnes us ms → (k : ℕ) → IsOne a (nth us k) (argument ms k)
  argument_one [] [] h k = refl
  argument_one [] (m ∷ ms) h k = absurd h
  argument_one (u ∷ us) [] h k = absurd h
  argument_one (u ∷ us) (m ∷ ms) h zero = h.0
  argument_one (u ∷ us) (m ∷ ms) h (suc k) = argument_one us ms h.1 k

  library_is : (f : Library) (t : Elem) (us : List ℕ) (x y z : Payload) → by_itself f ≡ true → IsOne a (nth us 0) x → IsOne a (nth us 1) y → IsOne a (nth us 2) z
      → IsOne a (library_one f t us) (library_value gang t a f x y z)
  library_is library.Min t us x y z e i j k = joined_one a _ _ _ x y i j
  library_is library.Max t us x y z e i j k = joined_one a _ _ _ x y i j
  library_is library.Clamp t us x y z e i j k = joined_one a _ _ _ _ z (joined_one a _ _ _ x y i j) k
  library_is library.Abs t us x y z e i j k = mapped_one a _ _ x i
  library_is library.Select t us x y z e i j k = chosen_of a _ _ _ x y z i j k
  library_is library.ReduceAdd t us x y z e i j k = absurd (cc)
  library_is library.ReduceMin t us x y z e i j k = absurd (cc)
  library_is library.ReduceMax t us x y z e i j k = absurd (cc)
  library_is library.ReduceEqual t us x y z e i j k = absurd (cc)
  library_is library.Any t us x y z e i j k = absurd (cc)
  library_is library.All t us x y z e i j k = absurd (cc)
  library_is library.None t us x y z e i j k = absurd (cc)
  library_is library.ScanAdd t us x y z e i j k = absurd (cc)
  library_is library.ScanAnd t us x y z e i j k = absurd (cc)
  library_is library.ScanOr t us x y z e i j k = absurd (cc)
  library_is library.Broadcast t us x y z e i j k = absurd (cc)
  library_is library.Rotate t us x y z e i j k = absurd (cc)
  library_is library.Shift t us x y z e i j k = absurd (cc)
  library_is library.Shuffle t us x y z e i j k = absurd (cc)
  library_is library.ShuffleTwo t us x y z e i j k = absurd (cc)
  library_is library.Extract t us x y z e i j k = absurd (cc)
  library_is library.Insert t us x y z e i j k = absurd (cc)

  -- ---- places

  read_is : (r : Rate) (v : ℕ) (k : Known) → known v ≡ k → steady_read r k ≡ true → (s : State) → s.varying ≡ there → IsOne a (read_one frame scalars r v s) (variable r v a (tick s))
  read_is Uniform v k e h s i = refl
  read_is Varying v Unknown e h s i = absurd (cc)
  read_is Varying v Linear e h s i = absurd (cc)
  read_is Varying v Steady e h s i = fun_ext (λ p. ap (λ f. on a (f v) p) i ∙ by p (a p) refl)
    where
      by : (p : ℕ) (t : Bool) → a p ≡ t → (if t then Some (there v p) else None) ≡ (if t then Some (scalars v) else None)
      by p true is = ap Some (have v e p is)
      by p false is = refl

  element_is : (b : ArrayVariable) (sp : Span) (e : Elem) (u : ℕ) (m : Payload) (s : State) (r : Rate) → is_shared r ≡ true → IsOne a u m → s.varying ≡ there
      → Is (checked_one (is_outside e (extent frame b) u) Index sp s (s.arrays (frame.named b.number) (element e u)))
      (checked (outside gang frame (Element b e m) a) Index sp s (elements frame b e m a r s))
  element_is b sp e u m s Varying h i j = absurd (cc)
  element_is b sp e u m s Uniform h i j =
      let f = is_outside e (extent frame b) in
      checked_is (f u) (outside gang frame (Element b e m) a) f Index sp s _ _ (offender_one a gang f u m i) (mapped_one a (λ x. s.arrays (frame.named b.number) (element e x)) u m i) j

  -- ---- expressions

  mutual
    pub value_is : (x : TExpr) → steady known x ≡ true → IsTold x
    value_is (t_constant v sp) e s h = (refl, refl, h)
    value_is (t_program_index sp) e s h = absurd (cc)
    value_is (t_place q) e s h = place_is q e s h
    value_is (t_convert f x) e s h = bind_is _ _ _ _ (value_is x e s h) (λ u m s1 i j. (mapped_one a _ u m i, refl, j))
    value_is (t_cast x t sp) e s h = value_is x e (tick s) h
    value_is (t_unary op x t sp) e s h = bind_is _ _ _ _ (value_is x e (tick s) h) (λ u m s1 i j. (mapped_one a _ u m i, refl, j))
    value_is (t_binary op x y t sp) e s h =
        let k = both _ _ e in
        bind_is _ _ _ _ (value_is x k.0 (tick s) h) (λ u m s1 i j. bind_is _ _ _ _ (value_is y k.1 s1 j)
        (λ w n s2 i2 j2. checked_is (is_zero op t.elem w) _ (is_zero op t.elem) Divide sp s2 _ _ (offender_one a gang (is_zero op t.elem) w n i2) (joined_one a (op_bits op t.elem) u w m n i i2) j2))
    value_is (t_compare c x y r sp) e s h =
        let k = both _ _ e in
        bind_is _ _ _ _ (value_is x k.0 (tick s) h) (λ u m s1 i j. bind_is _ _ _ _ (value_is y k.1 s1 j) (λ w n s2 i2 j2. (joined_one a _ u w m n i i2, refl, j2)))
    value_is (t_logic l x y r sp) e s h =
        let k = both _ _ e in
        bind_is _ _ _ _ (value_is x k.0 (tick s) h) (λ u m s1 i j. logic_is l u m y i (value_is y k.1) s1 j (needs l u) refl)
    value_is (t_choose c x y t sp) e s h =
        let k = both _ _ e in
        let l = both _ _ k.1 in
        bind_is _ _ _ _ (value_is c k.0 (tick s) h) (λ u m s1 i j. choose_is u m x y i (value_is x l.0) (value_is y l.1) s1 j (is_true u) refl)
    value_is (t_call c t) e s h = absurd (cc)
    value_is (t_library f t xs ty sp) e s h =
        let k = both _ _ e in
        values_are xs k.1 (tick s) h _ _ (λ us ms s1 i j. (library_is f t us _ _ _ k.0 (argument_one us ms i 0) (argument_one us ms i 1) (argument_one us ms i 2), refl, j))
    value_is (t_packed_store b x sp) e s h = absurd (cc)
    value_is (t_packed_load b v sp) e s h = absurd (cc)

    place_is : (q : TPlace) → steady_place known q ≡ true → (s : State) → s.varying ≡ there → Is (sole_place frame scalars q s) (value gang frame calls (t_place q) a s)
    place_is (t_variable v t sp) e s h = (read_is t.rate v (known v) refl e s h, refl, h)
    place_is (t_element b i t sp) e s h =
        let k = both _ _ e in
        subst (Is (sole_place frame scalars (t_element b i t sp) s)) (sym (bind_bind (value gang frame calls i a (tick s)) (λ m s1. Gives (Element b (type_of i).elem m) s1) _))
        (bind_is _ _ _ _ (value_is i k.1 (tick s) h) (λ u m s1 j l. element_is b sp (type_of i).elem u m s1 b.ty.rate k.0 j l))

    values_are : (xs : TExprs) → all_steady known xs ≡ true → (s : State) → s.varying ≡ there → (go : List ℕ → State → Sole) (does : List Payload → State → Val Payload)
        → ((us : List ℕ) (ms : List Payload) (s1 : State) → AreOnes us ms → s1.varying ≡ there → Is (go us s1) (does ms s1))
        → Is (soles frame scalars xs s go) (bind (values gang frame calls xs a s) does)
    values_are t_no_exprs e s h go does k = k [] [] s tt h
    values_are (t_expr_then x xs) e s h go does k =
        let l = both _ _ e in
        subst (Is (soles frame scalars (t_expr_then x xs) s go)) (sym (bind_bind (value gang frame calls x a s) _ does))
        (bind_is _ _ _ _ (value_is x l.0 s h) (λ u m s1 i j. subst (Is (soles frame scalars xs s1 (λ us s2. go (u ∷ us) s2))) (sym (bind_bind (values gang frame calls xs a s1) _ does))
        (values_are xs l.1 s1 j (λ us s2. go (u ∷ us) s2) (λ ms s2. does (m ∷ ms) s2) (λ us ms s2 i2 j2. k (u ∷ us) (m ∷ ms) s2 (i, i2) j2))))

  comes_to : (o : Sole) (v : Val Payload) → Is o v → ComesTo gang IsOne a o v
  comes_to (Comes u s) (Gives m s1) h = (h.0, h.1)
  comes_to (Comes u s) (Fails t s1) h = absurd h
  comes_to (Comes u s) (Stops s1) h = absurd h
  comes_to (Traps kind sp s) v h = h

  steady_comes : (x : TExpr) → steady known x ≡ true → (s : State) → s.varying ≡ there → ComesTo gang IsOne a (told x s) (value gang frame calls x a s)
  steady_comes x e s h = comes_to (told x s) _ (value_is x e s h)

-- a variable that is known to be steady
pub steady_as : (k : Known) (t : Elem) (u : ℕ) (x : Lanes) (a : Mask) → k ≡ Steady → IsAsKnown k t u x a → (p : ℕ) → a p ≡ true → x p ≡ u
steady_as Steady t u x a e h = h
steady_as Unknown t u x a e h = absurd (cc)
steady_as Linear t u x a e h = absurd (cc)

pub steady_gives_one : SteadyGivesOne
steady_gives_one gang vars frame calls known scalars x a s e are = (
  sole frame scalars x s,
  λ b part some. steady_comes gang frame calls known scalars b some s.varying (λ v k p i. steady_as (known v) _ (scalars v) (s.varying v) a k (are v) p (part p i)) x e s refl,
  λ b some. alone_steady gang frame calls known scalars b some x e s,
)
