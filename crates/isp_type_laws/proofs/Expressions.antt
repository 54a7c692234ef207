-- What an expression gives fits its type, and leaves a state whose values fit theirs.
use Rattle.std.specs.Prelude.{◌≡◌, ℕ, zero, suc, ◌^◌, ◌<◌, ◌≤◌, List, [], ◌∷◌, length, take, drop, Option, Some, Bool, slice_get}
use Rattle.std.specs.List.{All}
use Rattle.std.proofs.Common.{refl, sym, ap, ◌∙◌, subst, arith, mod-lt, pow_pos, inl, inr}
use Rattle.std.proofs.lemmas.List.Elements.{All-head, All-tail}
use Rattle.isp_base.specs.Access.{is_zero}
use Rattle.isp_base.specs.Cross.{rank, packed_outside}
use Rattle.isp_base.specs.Sets.{Mask, lowest}
use Rattle.isp_base.specs.Types.{widest}
use Rattle.isp_base.specs.Unary.{unary_bits}
use Rattle.isp_base.specs.Values.{width, op_bits, compare_bits}
use Rattle.isp_base.specs.declared.types.Elem.{Elem}
use Rattle.isp_base.specs.declared.types.Elem.TheVariants.{Bool as Truth, I32}
use Rattle.isp_base.specs.declared.types.Rate.{Rate}
use Rattle.isp_base.specs.declared.types.Rate.TheVariants.{Uniform, Varying}
use Rattle.isp_base.specs.declared.types.Span.{Span}
use Rattle.isp_base.specs.declared.types.Ty.{Ty}
use Rattle.isp_base.specs.declared.trap.TrapKind.TheVariants.{Divide, Index}
use Rattle.isp_lex.specs.declared.fault.Fault.{Fault}
use Rattle.isp_lex.specs.declared.fault.Rule.TheVariants.{VaryingToUniform}
use Rattle.isp_lex.specs.Faults.{fault}
use Rattle.isp_typed.specs.Fine.{FineExpr, FinePlace, FineBase, FineCall, FineArguments, FineArgument, FineParts, FineFunction, IsDeclared}
use Rattle.isp_typed.specs.Library as library
use Rattle.isp_typed.specs.Typed as typed
use Rattle.isp_typed.specs.Typed.{TExpr, t_constant, t_program_index, t_place, t_convert, t_cast, t_unary, t_binary, t_compare, t_logic, t_choose, t_call, t_library, t_packed_store}
use Rattle.isp_typed.specs.Typed.{t_packed_load, TPlace, t_variable, t_element, TBase, t_whole, t_from, TArgument, t_by_value, t_by_name, TCall, t_called, TArguments, t_no_arguments}
use Rattle.isp_typed.specs.Typed.{t_argument_then, TExprs, t_no_exprs, t_expr_then, t_exprs, elem_of, place_type, place_span, TFunction}
use Rattle.isp_typed.specs.declared.library.Part.{Part}
use Rattle.isp_typed.specs.declared.variable.Holds.{Holds}
use Rattle.isp_typed.specs.declared.variable.Holds.TheVariants as hold
use Rattle.isp_typed.specs.declared.variable.Variable.{Variable}
use Rattle.isp_rates.specs.Breaches.{OfEach}
use Rattle.isp_rates.specs.Rates.{rate_held, variables_of, RateBreach, DemandBreach, ExprBreach, PlaceBreach, BaseBreach, ArgumentBreach, CallBreach, ArgumentsBreach, ValuesBreach}
use Rattle.isp_meaning.specs.State.{State, tick, extent}
use Rattle.isp_meaning.specs.Payloads.{Payload, is_true, is_false, converted, kept_by, offender}
use Rattle.isp_meaning.specs.Outcomes.{Val}
use Rattle.isp_meaning.specs.Places.{outside}
use Rattle.isp_meaning.specs.Expressions.{Passed, Values, Store, Calls, needs, base_array, value, place, first_element, values, call, arguments, passed}
use Rattle.isp_type_laws.proofs.Bounds.{Fits, wrap_lt, convert_lt, bit_lt, rank_le, on_under, mapped_bounded, joined_bounded, settled_bounded, selected_bounded}
use Rattle.isp_type_laws.proofs.Library.{PartsFit, library_fits}
use Rattle.isp_type_laws.proofs.Typing.{World, Stands, IsStore, elem_if, elem_at, answer_elem, array_elem, array_store, Sound, ValFits, Any, PlaceFits, gives_fits}
use Rattle.isp_type_laws.proofs.Typing.{bind_fits, checked_fits, unless_value, held_fits, written_fits, packed_held_fits, packed_kept_fits}

abbrev pub NoneOf : (Fault → Type 0) → Type 0
NoneOf B = (f : Fault) → B f → ⊥

pub demand_own : (wanted : Rate) (x : TExpr) (B : Fault → Type 0) → NoneOf (DemandBreach wanted x B) → NoneOf B
demand_own wanted x B n = λ f b. n f (inl b)

pub is_uniform : (r : Rate) (s : Span) → NoneOf (RateBreach Uniform r s) → r ≡ Uniform
is_uniform Uniform s n = refl
is_uniform Varying s n = absurd (n (fault VaryingToUniform s) (refl, refl))

same_base : (b : TBase) → typed.base_array b ≡ base_array b
same_base (t_whole a s) = refl
same_base (t_from a i s) = refl

-- ---- what is handed to a call

module _ (gang : ℕ) (w : World) where
  abbrev pub Passes : Holds → Passed → Type 0
  Passes (hold.Value t) (Values m) = Fits gang t.elem m
  Passes (hold.Value t) (Store b) = ⊥
  Passes (hold.Given e) (Values m) = ⊥
  Passes (hold.Given e) (Store b) = IsStore w b e
  Passes (hold.Local t n) x = ⊥

  -- to the first variables of a function; the others are declared in its body
  abbrev pub ArgumentsFit : List Variable → List Passed → Type 0
  ArgumentsFit [] [] = Unit {0}
  ArgumentsFit [] (x ∷ xs) = ⊥
  ArgumentsFit (v ∷ vs) [] = All IsDeclared (v ∷ vs)
  ArgumentsFit (v ∷ vs) (x ∷ xs) = Passes v.holds x × ArgumentsFit vs xs

-- what is handed over fits what the function holds; so does what it gives
abbrev pub CallsFit : ℕ → List TFunction → Calls → Type 0
CallsFit gang fs calls =
    (k : ℕ) (g : TFunction) → slice_get fs k ≡ Some g → (sp : Span) (a : Mask) (ps : List Passed) (w : World) (s : State)
    → ArgumentsFit gang w g.variables ps → Sound gang w s → ValFits gang w (Fits gang (answer_elem g.answer)) (calls k sp a ps w.frame s)

module _ (gang : ℕ) (some : 0 < gang) (few : gang ≤ widest) (fs : List TFunction) (each : (k : ℕ) (g : TFunction) → slice_get fs k ≡ Some g → FineFunction fs g) (calls : Calls) (fit : CallsFit gang fs calls) (w : World) (stands : Stands w) where
  as_fit : (m : Payload) {e t : Elem} → e ≡ t → Fits gang e m → Fits gang t m
  as_fit m e h = subst (λ z. Fits gang z m) e h

  val_as : (v : Val Payload) {e t : Elem} → e ≡ t → ValFits gang w (Fits gang e) v → ValFits gang w (Fits gang t) v
  val_as v e h = subst (λ z. ValFits gang w (Fits gang z) v) e h

  rank_few : (a : Mask) → rank a gang < 2 ^ 32
  rank_few a = let h = rank_le a gang in omega (arith, few)

  base_store : (b : TBase) → FineBase fs w.variables b → NoneOf (BaseBreach fs b) → IsStore w (w.frame.named (base_array b).number) (base_array b).ty.elem
  base_store (t_whole b sp) f n = array_store w b stands f.0 (is_uniform b.ty.rate sp n)
  base_store (t_from b i sp) f n = array_store w b stands f.0 (is_uniform b.ty.rate sp (λ e h. n e (inl h)))

  mutual
    pub value_fits : (x : TExpr) → FineExpr fs w.variables x → NoneOf (ExprBreach fs x) → (a : Mask) (s : State) → Sound gang w s → ValFits gang w (Fits gang (elem_of x)) (value gang w.frame calls x a s)
    value_fits (t_constant v sp) f n a s h = gives_fits gang w _ _ _ (mod-lt v.bits (pow_pos (width v.elem))) h
    value_fits (t_program_index sp) f n a s h = gives_fits gang w _ _ _ (λ p l. on_under (2 ^ 32) a (λ q. q) p (omega (arith, l, few))) h
    value_fits (t_place q) f n a s h =
        bind_fits gang w (PlaceFits gang w (place_type q).elem) (Fits gang (place_type q).elem) _ _ (place_fits q f n a s h)
        (λ r s1 k h1. checked_fits gang w (Fits gang (place_type q).elem) (outside gang w.frame r a) Index (place_span q) s1 _
        (held_fits gang w (place_type q).elem r a s1 k h1) h1)
    value_fits (t_convert e x) f n a s h =
        bind_fits gang w (Fits gang (elem_of x)) (Fits gang e) _ _ (value_fits x f.0 n a s h) (λ m s1 k h1. gives_fits gang w (Fits gang e) _ s1 (mapped_bounded gang (2 ^ width e) (converted (elem_of x) e) (λ z. convert_lt e _) m) h1)
    value_fits (t_cast x t sp) f n a s h = val_as _ f.1 (value_fits x f.0 (demand_own t.rate x (ExprBreach fs x) n) a (tick s) h)
    value_fits (t_unary op x t sp) f n a s h =
        bind_fits gang w (Fits gang (elem_of x)) (Fits gang t.elem) _ _ (value_fits x f.0 n a (tick s) h)
        (λ m s1 k h1. gives_fits gang w (Fits gang t.elem) _ s1
        (mapped_bounded gang (2 ^ width t.elem) (unary_bits op t.elem) (λ z. wrap_lt t.elem _) m) h1)
    value_fits (t_binary op x y t sp) f n a s h =
        bind_fits gang w (Fits gang (elem_of x)) (Fits gang t.elem) _ _ (value_fits x f.0 (λ e b. n e (inl b)) a (tick s) h)
        (λ m s1 k h1. bind_fits gang w (Fits gang (elem_of y)) (Fits gang t.elem) _ _ (value_fits y f.1 (λ e b. n e (inr b)) a s1 h1)
        (λ u s2 j h2. checked_fits gang w (Fits gang t.elem) (offender gang (is_zero op t.elem) a u) Divide sp s2 _
        (joined_bounded gang (2 ^ width t.elem) (op_bits op t.elem) (λ i l. wrap_lt t.elem _) a m u) h2))
    value_fits (t_compare c x y r sp) f n a s h =
        bind_fits gang w (Fits gang (elem_of x)) (Fits gang Truth) _ _ (value_fits x f.0 (λ e b. n e (inl b)) a (tick s) h)
        (λ m s1 k h1. bind_fits gang w (Fits gang (elem_of y)) (Fits gang Truth) _ _ (value_fits y f.1 (λ e b. n e (inr b)) a s1 h1)
        (λ u s2 j h2. gives_fits gang w (Fits gang Truth) _ s2 (joined_bounded gang (2 ^ 1) (compare_bits c (elem_of x)) (λ i l. bit_lt _) a m u)
        h2))
    value_fits (t_logic l x y r sp) f n a s h =
        bind_fits gang w (Fits gang Truth) (Fits gang Truth) _ _ (val_as _ f.2.left (value_fits x f.0 (λ e b. n e (inl b)) a (tick s) h))
        (λ m s1 k h1. bind_fits gang w (Fits gang Truth) (Fits gang Truth) _ _
        (unless_value gang w Truth gang (kept_by (needs l) a m) s1 (value gang w.frame calls y)
        (val_as _ f.2.right (value_fits y f.1 (λ e b. n e (inr b)) (kept_by (needs l) a m) s1 h1)) h1)
        (λ u s2 j h2. gives_fits gang w (Fits gang Truth) _ s2 (settled_bounded gang (2 ^ 1) l a m u k j) h2))
    value_fits (t_choose c x y t sp) f n a s h =
        bind_fits gang w (Fits gang (elem_of c)) (Fits gang t.elem) _ _ (value_fits c f.0 (λ e b. n e (inl b)) a (tick s) h)
        (λ k s1 i h1. bind_fits gang w (Fits gang t.elem) (Fits gang t.elem) _ _
        (unless_value gang w t.elem gang (kept_by is_true a k) s1 (value gang w.frame calls x)
        (val_as _ f.4 (value_fits x f.1 (λ e b. n e (inr (inl b))) (kept_by is_true a k) s1 h1)) h1)
        (λ m s2 j h2. bind_fits gang w (Fits gang t.elem) (Fits gang t.elem) _ _
        (unless_value gang w t.elem gang (kept_by is_false a k) s2 (value gang w.frame calls y)
        (val_as _ f.5 (value_fits y f.2 (λ e b. n e (inr (inr b))) (kept_by is_false a k) s2 h2)) h2)
        (λ u s3 o h3. gives_fits gang w (Fits gang t.elem) _ s3 (selected_bounded gang (2 ^ width t.elem) a k m u j o) h3)))
    value_fits (t_call c t) f n a s h = call_fits c (Some t) f n a s h
    value_fits (t_library g e xs t sp) f n a s h =
        bind_fits gang w (PartsFit gang e (library.parts g)) (Fits gang t.elem) _ _ (values_fit e (library.parts g) xs f.0 n a (tick s) h)
        (λ ms s1 k h1. gives_fits gang w (Fits gang t.elem) _ s1 (as_fit _ (sym (ap (λ z. z.elem) f.2)) (library_fits gang some e a g _ ms k)) h1)
    value_fits (t_packed_store b x sp) f n a s h =
        let is = base_store b f.0 (λ e z. n e (inl z)) in
        let same : elem_of x ≡ (base_array b).ty.elem = f.2 ∙ ap (λ z. z.ty.elem) (same_base b) in
        bind_fits gang w (Any gang w) (Fits gang I32) _ _ (first_fits b f.0 (λ e z. n e (inl z)) a (tick s) h)
        (λ z s1 _ h1. bind_fits gang w (Fits gang (base_array b).ty.elem) (Fits gang I32) _ _
        (val_as _ same (value_fits x f.1 (λ e k. n e (inr k)) a s1 h1))
        (λ m s2 k h2. bind_fits gang w (Fits gang (base_array b).ty.elem) (Fits gang I32) _ _
        (checked_fits gang w (Fits gang (base_array b).ty.elem) (lowest gang (packed_outside (extent w.frame (base_array b)) z a)) Index sp s2 m k
        h2) (λ u s3 j h3. gives_fits gang w (Fits gang I32) _ _ (rank_few a)
        (packed_kept_fits gang w (base_array b).ty.elem (w.frame.named (base_array b).number) z a u s3 is.0 j h3))))
    value_fits (t_packed_load b v sp) f n a s h =
        let is = base_store b f.0 n in
        let same : elem_at w v ≡ (base_array b).ty.elem = ap elem_if f.1 ∙ ap (λ z. z.ty.elem) (same_base b) in
        bind_fits gang w (Any gang w) (Fits gang I32) _ _ (first_fits b f.0 n a (tick s) h)
        (λ z s1 _ h1. bind_fits gang w (Fits gang (base_array b).ty.elem) (Fits gang I32) _ _
        (checked_fits gang w (Fits gang (base_array b).ty.elem) (lowest gang (packed_outside (extent w.frame (base_array b)) z a)) Index sp
        (tick s1) _ (packed_held_fits gang w (base_array b).ty.elem (w.frame.named (base_array b).number) z a s1 is.0 h1) h1)
        (λ u s2 j h2. gives_fits gang w (Fits gang I32) _ _ (rank_few a) (written_fits gang w (base_array b).ty.elem Varying v a u s2 same j h2)))

    pub place_fits : (q : TPlace) → FinePlace fs w.variables q → NoneOf (PlaceBreach fs q) → (a : Mask) (s : State) → Sound gang w s → ValFits gang w (PlaceFits gang w (place_type q).elem) (place gang w.frame calls q a s)
    place_fits (t_variable v t sp) f n a s h = gives_fits gang w _ _ _ (ap elem_if f.is) h
    place_fits (t_element b i t sp) f n a s h =
        let same : b.ty.elem ≡ t.elem = sym (ap (λ z. z.elem) f.2) in
        bind_fits gang w (Fits gang (elem_of i)) (PlaceFits gang w t.elem) _ _ (value_fits i f.1 n a (tick s) h)
        (λ m s1 k h1. gives_fits gang w (PlaceFits gang w t.elem) _ s1 (array_elem w b f.0 ∙ same, λ r. (array_store w b stands f.0 r).0 ∙ same)
        h1)

    first_fits : (b : TBase) → FineBase fs w.variables b → NoneOf (BaseBreach fs b) → (a : Mask) (s : State) → Sound gang w s → ValFits gang w (Any gang w) (first_element gang w.frame calls b a s)
    first_fits (t_whole b sp) f n a s h = gives_fits gang w _ _ _ tt h
    first_fits (t_from b i sp) f n a s h =
        bind_fits gang w (Fits gang (elem_of i)) (Any gang w) _ _ (value_fits i f.1 (demand_own Uniform i (ExprBreach fs i) (λ e z. n e (inr z))) a (tick s) h) (λ m s1 k h1. gives_fits gang w (Any gang w) _ s1 tt h1)

    values_fit : (e : Elem) (ps : List Part) (xs : TExprs) → FineParts fs w.variables e ps xs → NoneOf (ValuesBreach fs ps xs) → (a : Mask) (s : State) → Sound gang w s → ValFits gang w (PartsFit gang e ps) (values gang w.frame calls xs a s)
    values_fit e [] t_no_exprs f n a s h = gives_fits gang w _ _ _ tt h
    values_fit e [] (t_expr_then x xs) f n a s h = absurd f
    values_fit e (p ∷ ps) t_no_exprs f n a s h = absurd f
    values_fit e (p ∷ ps) (t_expr_then x xs) f n a s h =
        bind_fits gang w (Fits gang (library.part_elem e p)) (PartsFit gang e (p ∷ ps)) _ _
        (val_as _ f.1 (value_fits x f.0 (λ z b. n z (inl (inl b))) a s h))
        (λ m s1 k h1. bind_fits gang w (PartsFit gang e ps) (PartsFit gang e (p ∷ ps)) _ _ (values_fit e ps xs f.2 (λ z b. n z (inr b)) a s1 h1)
        (λ ms s2 j h2. gives_fits gang w (PartsFit gang e (p ∷ ps)) _ s2 (k, j) h2))

    pub call_fits : (c : TCall) (answer : Option Ty) → FineCall fs w.variables c answer → NoneOf (CallBreach fs c) → (a : Mask) (s : State) → Sound gang w s → ValFits gang w (Fits gang (answer_elem answer)) (call gang w.frame calls c a s)
    call_fits (t_called k xs sp) answer f n a s h =
        let same : variables_of fs k ≡ f.0.variables = rw f.1 refl in
        bind_fits gang w (ArgumentsFit gang w f.0.variables) (Fits gang (answer_elem answer)) _ _
        (arguments_fit (length f.0.params) f.0.variables xs f.3 (each k f.0 f.1).declared (subst (λ vs. NoneOf (ArgumentsBreach fs vs xs)) same n)
        a (tick s) h) (λ ps s1 i h1. val_as _ (ap answer_elem f.2) (fit k f.0 f.1 sp a ps w s1 i h1))

    arguments_fit : (m : ℕ) (vs : List Variable) (xs : TArguments) → FineArguments fs w.variables (take m vs) xs → All IsDeclared (drop m vs)
        → NoneOf (ArgumentsBreach fs vs xs) → (a : Mask) (s : State) → Sound gang w s
        → ValFits gang w (ArgumentsFit gang w vs) (arguments gang w.frame calls xs a s)
    arguments_fit m [] t_no_arguments f d n a s h = gives_fits gang w _ _ _ tt h
    arguments_fit zero (v ∷ vs) t_no_arguments f d n a s h = gives_fits gang w _ _ _ d h
    arguments_fit (suc m) (v ∷ vs) t_no_arguments f d n a s h = absurd f
    arguments_fit zero [] (t_argument_then x xs) f d n a s h = absurd f
    arguments_fit zero (v ∷ vs) (t_argument_then x xs) f d n a s h = absurd f
    arguments_fit (suc m) [] (t_argument_then x xs) f d n a s h = absurd f
    arguments_fit (suc m) (v ∷ vs) (t_argument_then x xs) f d n a s h =
        bind_fits gang w (Passes gang w v.holds) (ArgumentsFit gang w (v ∷ vs)) _ _ (passed_fits v.holds v.constant x f.0 (λ e b. n e (inl b)) a s h)
        (λ p s1 k h1. bind_fits gang w (ArgumentsFit gang w vs) (ArgumentsFit gang w (v ∷ vs)) _ _
        (arguments_fit m vs xs f.1 d (λ e b. n e (inr b)) a s1 h1)
        (λ ps s2 j h2. gives_fits gang w (ArgumentsFit gang w (v ∷ vs)) _ s2 (k, j) h2))

    passed_fits : (o : Holds) (c : Bool) (x : TArgument) → FineArgument fs w.variables o c x → NoneOf (ArgumentBreach fs (rate_held o) x) → (a : Mask) (s : State) → Sound gang w s → ValFits gang w (Passes gang w o) (passed gang w.frame calls x a s)
    passed_fits (hold.Value t) c (t_by_value x) f n a s h =
        bind_fits gang w (Fits gang t.elem) (Passes gang w (hold.Value t)) _ _ (val_as _ f.1 (value_fits x f.0 (demand_own t.rate x (ExprBreach fs x) n) a s h)) (λ m s1 k h1. gives_fits gang w (Passes gang w (hold.Value t)) _ s1 k h1)
    passed_fits (hold.Value t) c (t_by_name b sp) f n a s h = absurd f
    passed_fits (hold.Given e) c (t_by_value x) f n a s h = absurd f
    passed_fits (hold.Given e) c (t_by_name b sp) f n a s h =
        gives_fits gang w (Passes gang w (hold.Given e)) _ _ (subst (IsStore w (w.frame.named b.number)) f.1 (array_store w b stands f.0 (is_uniform b.ty.rate sp n))) h
    passed_fits (hold.Local t m) c (t_by_value x) f n a s h = absurd f
    passed_fits (hold.Local t m) c (t_by_name b sp) f n a s h = absurd f

  -- values of which nothing is asked
  pub values_any : (xs : List TExpr) → All (FineExpr fs w.variables) xs → NoneOf (OfEach (ExprBreach fs) xs) → (a : Mask) (s : State) → Sound gang w s → ValFits gang w (Any gang w) (values gang w.frame calls (t_exprs xs) a s)
  values_any [] f n a s h = gives_fits gang w _ _ _ tt h
  values_any (x ∷ xs) f n a s h =
      bind_fits gang w (Fits gang (elem_of x)) (Any gang w) _ _ (value_fits x (All-head (FineExpr fs w.variables) x xs f) (λ e b. n e (inl b)) a s h)
      (λ m s1 k h1. bind_fits gang w (Any gang w) (Any gang w) _ _
      (values_any xs (All-tail (FineExpr fs w.variables) x xs f) (λ e b. n e (inr b)) a s1 h1)
      (λ ms s2 j h2. gives_fits gang w (Any gang w) _ s2 tt h2))
