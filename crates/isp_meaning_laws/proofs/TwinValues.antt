-- Expressions and simple statements beside each other: the same comes of both, one line a node. What it rests on is said of places,
-- stores and calls.
use Rattle.std.proofs.Common.{◌≡◌, ℕ, ◌⊎◌, inl, inr, Bool, true, refl, subst}
use Rattle.std.specs.Prelude.{◌+◌, ◌++◌, List, [], ◌∷◌, Option, Some, None, ℤ}
use Rattle.isp_base.specs.Access.{is_zero}
use Rattle.isp_base.specs.Cross.{packed_outside}
use Rattle.isp_base.specs.Sets.{Mask, any, lowest}
use Rattle.isp_base.specs.declared.operators.BinOp.{BinOp}
use Rattle.isp_base.specs.declared.trap.TrapKind.{TrapKind}
use Rattle.isp_base.specs.declared.trap.TrapKind.TheVariants.{Divide, Index}
use Rattle.isp_base.specs.declared.types.Elem.{Elem}
use Rattle.isp_base.specs.declared.types.Rate.{Rate}
use Rattle.isp_base.specs.declared.types.Rate.TheVariants.{Varying}
use Rattle.isp_base.specs.declared.types.Span.{Span}
use Rattle.isp_typed.specs.declared.variable.ArrayVariable.{ArrayVariable}
use Rattle.isp_typed.specs.Typed.{TExpr, t_constant, t_program_index, t_place, t_convert, t_cast, t_unary, t_binary, t_compare, t_logic, t_choose, t_call, t_library, t_packed_store, t_packed_load, TPlace, t_variable, t_element}
use Rattle.isp_typed.specs.Typed.{TBase, t_whole, t_from, type_of, place_span}
use Rattle.isp_typed.specs.Typed.{TArgument, t_by_value, t_by_name, TCall, t_called, TArguments, t_no_arguments, t_argument_then, TExprs, t_exprs, t_no_exprs, t_expr_then, TItem, t_plain, t_with_value, t_with_size, TSimple}
use Rattle.isp_typed.specs.Typed.{t_value, t_run, t_assign, t_update, t_step}
use Rattle.isp_typed.specs.Typed.{TFirst, t_first_declare, t_first_simple, TRange}
use Rattle.isp_meaning.specs.Expressions.{Passed, Values, Store, Calls, needs, base_array, packed_held, packed_kept, value, place, first_element, values, call, arguments, passed}
use Rattle.isp_meaning.specs.Outcomes.{Val, Gives, Fails, Stops, bind, checked, value_unless_empty}
use Rattle.isp_meaning.specs.Payloads.{Payload, One, is_true, is_false, kept_by, offender}
use Rattle.isp_meaning.specs.Places.{Place, Variable, Element, outside, held, kept, written, with_elements}
use Rattle.isp_meaning.specs.Simple.{cleared, update, simple, item, items, first_part, step_part}
use Rattle.isp_meaning.specs.State.{State, Frame, tick, extent}
use Rattle.isp_meaning.specs.Statements.{answered, ranges, test_part}
use Rattle.isp_meaning_laws.specs.Acts.{Act, At, Packed, Whole, Handed, Called, Printed, Each, EachPlace, EachBase, EachValue, EachCall, EachArgument, OfArgument, OfTarget, OfItem, EachItem, OfSimple, OfFirst, OfStep, OfTest, EachOf}
use Rattle.isp_meaning_laws.specs.Acts.{EachRange}
use Rattle.isp_meaning_laws.proofs.Twins.{Free, fst_of, snd_of, left_of, middle_of, last_of, Part, Out, OutBy, kept_part, Twin, gives, after, weaker, value_if, checks}

abbrev pub AllOf : (Passed → Type 0) → List Passed → Type 0
AllOf G [] = Unit {0}
AllOf G (x ∷ xs) = G x × AllOf G xs

-- no index outside the set
abbrev pub PlaceOut : Mask → Place → Type 0
PlaceOut m (Variable v t) = Unit {0}
PlaceOut m (Element b e i) = Out m i

module _ (gang : ℕ) (frame : Frame) (calls other : Calls) (m : Mask) (P : Act → Type 0) (G : Passed → Type 0) (L : State → State → Type 0) where
  -- a store at this index keeps states related
  abbrev pub Fine : ArrayVariable → Elem → Mask → Payload → Type 0
  Fine b e a i = (x : Payload) (s t : State) → L s t → L (with_elements frame b e i a gang b.ty.rate x s) (with_elements frame b e i a gang b.ty.rate x t)

  abbrev pub FineBy : ArrayVariable → Elem → Mask → Val Payload → Type 0
  FineBy b e a (Gives i s) = Fine b e a i
  FineBy b e a (Fails t s) = Unit {0}
  FineBy b e a (Stops s) = Unit {0}

  -- what it rests on
  pub record Ground : Type 0 where
    pub works : (k : ℕ) (s t : State) → L s t → L (record s { work = s.work + k }) (record t { work = t.work + k })
    pub holds : (q : Place) (a : Mask) (s t : State) → Part m a → PlaceOut m q → L s t → held gang frame q a s ≡ held gang frame q a t
    pub writes : (r : Rate) (v : ℕ) (a : Mask) (x : Payload) (s t : State) → Part m a → L s t → L (written r v a x s) (written r v a x t)
    pub stores : (b : ArrayVariable) (i : TExpr) → P (At b i) → (a : Mask) (s : State) → Part m a → any gang a ≡ true → FineBy b (type_of i).elem a (value gang frame calls i a s)
    pub run_holds : (k : ℕ) (z : ℤ) (a : Mask) (s t : State) → L s t → packed_held k z a s ≡ packed_held k z a t
    pub run_stores : (b : ArrayVariable) → P (Packed b) → (z : ℤ) (a : Mask) (x : Payload) (s t : State) → L s t → L (packed_kept gang (frame.named b.number) z a x s) (packed_kept gang (frame.named b.number) z a x t)
    pub clears : (b : ArrayVariable) → P (Whole b) → (a : Mask) (s t : State) → Part m a → L s t → L (cleared frame b.ty.rate b.number a s) (cleared frame b.ty.rate b.number a t)
    pub answers : (a : Mask) (x : Payload) (s t : State) → Part m a → L s t → L (answered frame.answer a x s) (answered frame.answer a x t)
    pub prints : P Printed → (w : List ℕ) (s t : State) → L s t → L (record s { out = s.out ++ w }) (record t { out = t.out ++ w })
    pub gives_value : (x : Payload) → G (Values x)
    pub hands : (b : ArrayVariable) → P (Handed b) → G (Store (frame.named b.number))
    pub asks : (f : ℕ) → P (Called f) → (sp : Span) (a : Mask) (xs : List Passed) (s t : State) → AllOf G xs → Part m a → any gang a ≡ true → L s t → Twin m L Free (calls f sp a xs frame s) (other f sp a xs frame t)
    pub outs : (x : TExpr) (a : Mask) (s : State) → Part m a → OutBy m (value gang frame calls x a s)

  -- all acts are right
  abbrev pub Right : Type 0
  Right = (d : Act) → P d

  pub right : (d : Act) → Right ⊎ P d → P d
  right d (inl w) = w d
  right d (inr h) = h

  module _ (ground : Ground) where
    abbrev Same : {A : Type 0} → (A → Type 0) → Val A → Val A → Type 0
    Same Q v w = Twin m L Q v w

    abbrev pub Twins : {A : Type 0} → (A → Type 0) → (Mask → State → Val A) → (Mask → State → Val A) → Type 0
    Twins Q f g = (a : Mask) (s t : State) → Part m a → any gang a ≡ true → L s t → Same Q (f a s) (g a t)

    -- a target, at which a store keeps states related
    abbrev FinePlace : Mask → Place → Type 0
    FinePlace a (Variable v t) = Unit {0}
    FinePlace a (Element b e i) = Fine b e a i × Out m i

    ticked : (s t : State) → L s t → L (tick s) (tick t)
    ticked s t l = ground.works 1 s t l

    done : {A : Type 0} (x : A) (s t : State) → L s t → Same Free (Gives x s) (Gives x t)
    done x s t l = gives m L Free x x s t refl tt l

    seq : {A B : Type 0} (v w : Val A) (go to : A → State → Val B) → Same Free v w → ((x : A) (s t : State) → L s t → Same Free (go x s) (to x t)) → Same Free (bind v go) (bind w to)
    seq v w go to h k = after m L Free Free v w go to h (λ x s t _ l. k x s t l)

    test : {A : Type 0} (o : Option ℕ) (kind : TrapKind) (sp : Span) (s t : State) (x y : A) → x ≡ y → L s t → Same Free (checked o kind sp s x) (checked o kind sp t y)
    test o kind sp s t x y e l = checks m L Free o kind sp s t x y e tt l

    none_out : (x : TExpr) (a : Mask) (s t : State) → Part m a → Same Free (value gang frame calls x a s) (value gang frame other x a t) → Same (Out m) (value gang frame calls x a s) (value gang frame other x a t)
    none_out x a s t sub h = weaker m L Free (Out m) _ _ (λ y s1 e. subst (OutBy m) e (ground.outs x a s sub)) h

    -- a later operand runs over those that need it, if there are any
    needed : (f : ℕ → Bool) (a : Mask) (k : Payload) (s t : State) (v w : Mask → State → Val Payload) → Part m a → Out m k → L s t → Twins Free v w
        → Same Free (value_unless_empty gang (kept_by f a k) s v) (value_unless_empty gang (kept_by f a k) t w)
    needed f a k s t v w sub h l go =
        value_if m L Free (any gang (kept_by f a k)) _ _ _ _ s t (λ e. go (kept_by f a k) s t (kept_part m f a k sub h) e l) (done _ s t l)

    mutual
      value_twin : (x : TExpr) → Right ⊎ Each P x → Twins Free (value gang frame calls x) (value gang frame other x)
      value_twin (t_constant v sp) c a s t h e l = done _ _ _ (ticked s t l)
      value_twin (t_program_index sp) c a s t h e l = done _ _ _ (ticked s t l)
      value_twin (t_place q) c a s t h e l =
          after m L (PlaceOut m) Free _ _ _ _ (place_twin q c a s t h e l) (λ r s1 t1 o l1. test (outside gang frame r a) Index (place_span q) s1 t1 _ _ (ground.holds r a s1 t1 h o l1) l1)
      value_twin (t_convert k x) c a s t h e l = seq _ _ _ _ (value_twin x c a s t h e l) (λ y s1 t1 l1. done _ s1 t1 l1)
      value_twin (t_cast x k sp) c a s t h e l = value_twin x c a (tick s) (tick t) h e (ticked s t l)
      value_twin (t_unary op x k sp) c a s t h e l = seq _ _ _ _ (value_twin x c a (tick s) (tick t) h e (ticked s t l)) (λ y s1 t1 l1. done _ s1 t1 l1)
      value_twin (t_binary op x y k sp) c a s t h e l =
          seq _ _ _ _ (value_twin x (fst_of c) a (tick s) (tick t) h e (ticked s t l)) (λ i s1 t1 l1. seq _ _ _ _ (value_twin y (snd_of c) a s1 t1 h e l1)
          (λ j s2 t2 l2. test (offender gang (is_zero op k.elem) a j) Divide sp s2 t2 _ _ refl l2))
      value_twin (t_compare o x y r sp) c a s t h e l =
          seq _ _ _ _ (value_twin x (fst_of c) a (tick s) (tick t) h e (ticked s t l)) (λ i s1 t1 l1. seq _ _ _ _ (value_twin y (snd_of c) a s1 t1 h e l1) (λ j s2 t2 l2. done _ s2 t2 l2))
      value_twin (t_logic o x y r sp) c a s t h e l =
          after m L (Out m) Free _ _ _ _ (none_out x a (tick s) (tick t) h (value_twin x (fst_of c) a (tick s) (tick t) h e (ticked s t l)))
          (λ i s1 t1 k l1. seq _ _ _ _ (needed (needs o) a i s1 t1 (value gang frame calls y) (value gang frame other y) h k l1 (value_twin y (snd_of c))) (λ j s2 t2 l2. done _ s2 t2 l2))
      value_twin (t_choose x y z k sp) c a s t h e l =
          after m L (Out m) Free _ _ _ _ (none_out x a (tick s) (tick t) h (value_twin x (left_of c) a (tick s) (tick t) h e (ticked s t l)))
          (λ i s1 t1 k l1. seq _ _ _ _ (needed is_true a i s1 t1 (value gang frame calls y) (value gang frame other y) h k l1 (value_twin y (middle_of c)))
          (λ j s2 t2 l2. seq _ _ _ _ (needed is_false a i s2 t2 (value gang frame calls z) (value gang frame other z) h k l2 (value_twin z (last_of c))) (λ n s3 t3 l3. done _ s3 t3 l3)))
      value_twin (t_call x k) c a s t h e l = call_twin x c a s t h e l
      value_twin (t_library f k xs r sp) c a s t h e l = seq _ _ _ _ (values_twin xs c a (tick s) (tick t) h e (ticked s t l)) (λ ys s1 t1 l1. done _ s1 t1 l1)
      value_twin (t_packed_store b x sp) c a s t h e l =
          seq _ _ _ _ (first_twin b (middle_of c) a (tick s) (tick t) h e (ticked s t l)) (λ z s1 t1 l1. seq _ _ _ _ (value_twin x (last_of c) a s1 t1 h e l1)
          (λ y s2 t2 l2. seq _ _ _ _ (test (lowest gang (packed_outside (extent frame (base_array b)) z a)) Index sp s2 t2 y y refl l2)
          (λ n s3 t3 l3. done _ _ _ (ground.run_stores (base_array b) (right _ (left_of c)) z a n s3 t3 l3))))
      value_twin (t_packed_load b v sp) c a s t h e l =
          seq _ _ _ _ (first_twin b c a (tick s) (tick t) h e (ticked s t l)) (λ z s1 t1 l1. seq _ _ _ _ (test (lowest gang (packed_outside (extent frame (base_array b)) z a)) Index sp (tick s1) (tick t1) _ _
          (ground.run_holds (frame.named (base_array b).number) z a s1 t1 l1) (ticked s1 t1 l1)) (λ n s2 t2 l2. done _ _ _ (ground.writes Varying v a n s2 t2 h l2)))

      place_twin : (q : TPlace) → Right ⊎ EachPlace P q → Twins (PlaceOut m) (place gang frame calls q) (place gang frame other q)
      place_twin (t_variable v k sp) c a s t h e l = gives m L (PlaceOut m) _ _ _ _ refl tt (ticked s t l)
      place_twin (t_element b i k sp) c a s t h e l =
          after m L (Out m) (PlaceOut m) _ _ _ _ (none_out i a (tick s) (tick t) h (value_twin i c a (tick s) (tick t) h e (ticked s t l))) (λ y s1 t1 o l1. gives m L (PlaceOut m) _ _ s1 t1 refl o l1)

      first_twin : (b : TBase) → Right ⊎ EachBase P b → Twins Free (first_element gang frame calls b) (first_element gang frame other b)
      first_twin (t_whole b sp) c a s t h e l = done _ _ _ (ticked s t l)
      first_twin (t_from b i sp) c a s t h e l = seq _ _ _ _ (value_twin i c a (tick s) (tick t) h e (ticked s t l)) (λ y s1 t1 l1. done _ s1 t1 l1)

      values_twin : (xs : TExprs) → Right ⊎ EachValue P xs → Twins Free (values gang frame calls xs) (values gang frame other xs)
      values_twin t_no_exprs c a s t h e l = done _ s t l
      values_twin (t_expr_then x xs) c a s t h e l =
          seq _ _ _ _ (value_twin x (fst_of c) a s t h e l) (λ y s1 t1 l1. seq _ _ _ _ (values_twin xs (snd_of c) a s1 t1 h e l1) (λ ys s2 t2 l2. done _ s2 t2 l2))

      call_twin : (x : TCall) → Right ⊎ EachCall P x → Twins Free (call gang frame calls x) (call gang frame other x)
      call_twin (t_called f xs sp) c a s t h e l =
          after m L (AllOf G) Free _ _ _ _ (arguments_twin xs (snd_of c) a (tick s) (tick t) h e (ticked s t l)) (λ ps s1 t1 k l1. ground.asks f (right _ (fst_of c)) sp a ps s1 t1 k h e l1)

      arguments_twin : (xs : TArguments) → Right ⊎ EachArgument P xs → Twins (AllOf G) (arguments gang frame calls xs) (arguments gang frame other xs)
      arguments_twin t_no_arguments c a s t h e l = gives m L (AllOf G) _ _ s t refl tt l
      arguments_twin (t_argument_then x xs) c a s t h e l =
          after m L G (AllOf G) _ _ _ _ (passed_twin x (fst_of c) a s t h e l) (λ y s1 t1 k l1. after m L (AllOf G) (AllOf G) _ _ _ _ (arguments_twin xs (snd_of c) a s1 t1 h e l1)
          (λ ys s2 t2 i l2. gives m L (AllOf G) _ _ s2 t2 refl (k, i) l2))

      passed_twin : (x : TArgument) → Right ⊎ OfArgument P x → Twins G (passed gang frame calls x) (passed gang frame other x)
      passed_twin (t_by_value x) c a s t h e l = after m L Free G _ _ _ _ (value_twin x c a s t h e l) (λ y s1 t1 _ l1. gives m L G _ _ s1 t1 refl (ground.gives_value y) l1)
      passed_twin (t_by_name b sp) c a s t h e l = gives m L G _ _ _ _ refl (ground.hands b (right _ c)) (ticked s t l)

    pub value_same : (x : TExpr) → Right ⊎ Each P x → Twins Free (value gang frame calls x) (value gang frame other x)
    value_same = value_twin

    pub value_out : (x : TExpr) → Right ⊎ Each P x → Twins (Out m) (value gang frame calls x) (value gang frame other x)
    value_out x c a s t h e l = none_out x a s t h (value_twin x c a s t h e l)

    pub listed_twin : (xs : List TExpr) → Right ⊎ EachOf P xs → Twins Free (values gang frame calls (t_exprs xs)) (values gang frame other (t_exprs xs))
    listed_twin [] c a s t h e l = done _ s t l
    listed_twin (x ∷ xs) c a s t h e l =
        seq _ _ _ _ (value_twin x (fst_of c) a s t h e l) (λ y s1 t1 l1. seq _ _ _ _ (listed_twin xs (snd_of c) a s1 t1 h e l1) (λ ys s2 t2 l2. done _ s2 t2 l2))

    -- ---- simple statements

    -- an index at which a store keeps states related
    index_fine : (b : ArrayVariable) (i : TExpr) → P (At b i) → (a : Mask) (s t : State) → Part m a → any gang a ≡ true → Same Free (value gang frame calls i a s) (value gang frame other i a t)
        → Same (λ y. Fine b (type_of i).elem a y × Out m y) (value gang frame calls i a s) (value gang frame other i a t)
    index_fine b i p a s t sub e h =
        weaker m L Free (λ y. Fine b (type_of i).elem a y × Out m y) _ _ (λ y s1 d. (subst (FineBy b (type_of i).elem a) d (ground.stores b i p a s sub e), subst (OutBy m) d (ground.outs i a s sub))) h

    target_twin : (q : TPlace) → Right ⊎ OfTarget P q → (a : Mask) (s t : State) → Part m a → any gang a ≡ true → L s t → Same (FinePlace a) (place gang frame calls q a s) (place gang frame other q a t)
    target_twin (t_variable v k sp) c a s t h e l = gives m L (FinePlace a) _ _ _ _ refl tt (ticked s t l)
    target_twin (t_element b i k sp) c a s t h e l =
        after m L (λ y. Fine b (type_of i).elem a y × Out m y) (FinePlace a) _ _ _ _ (index_fine b i (right _ (fst_of c)) a (tick s) (tick t) h e (value_twin i (snd_of c) a (tick s) (tick t) h e (ticked s t l)))
        (λ y s1 t1 k l1. gives m L (FinePlace a) _ _ s1 t1 refl k l1)

    keeps : (q : Place) (a : Mask) (x : Payload) (s t : State) → Part m a → FinePlace a q → L s t → L (kept gang frame q a x s) (kept gang frame q a x t)
    keeps (Variable v k) a x s t h f l = ground.writes k.rate v a x s t h l
    keeps (Element b e i) a x s t h f l = f.0 x s t l

    place_out : (q : Place) (a : Mask) → FinePlace a q → PlaceOut m q
    place_out (Variable v k) a f = tt
    place_out (Element b e i) a f = f.1

    update_twin : (op : BinOp) (k : Elem) (q : TPlace) (r : Place) (y : Payload) (sp : Span) (a : Mask) (s t : State) → Part m a → FinePlace a r → L s t
        → Same Free (update gang frame calls op k q r y sp a s) (update gang frame other op k q r y sp a t)
    update_twin op k q r y sp a s t h f l =
        seq _ _ _ _ (test (outside gang frame r a) Index (place_span q) s t _ _ (ground.holds r a s t h (place_out r a f) l) l) (λ x s1 t1 l1. seq _ _ _ _ (test (offender gang (is_zero op k) a y) Divide sp s1 t1 _ _ refl l1)
        (λ z s2 t2 l2. done _ _ _ (keeps r a _ s2 t2 h f l2)))

    pub simple_twin : (x : TSimple) → Right ⊎ OfSimple P x → Twins Free (simple gang frame calls x) (simple gang frame other x)
    simple_twin (t_value x) c a s t h e l = seq _ _ _ _ (value_twin x c a (tick s) (tick t) h e (ticked s t l)) (λ y s1 t1 l1. done _ s1 t1 l1)
    simple_twin (t_run x) c a s t h e l = seq _ _ _ _ (call_twin x c a (tick s) (tick t) h e (ticked s t l)) (λ y s1 t1 l1. done _ s1 t1 l1)
    simple_twin (t_assign q x sp) c a s t h e l =
        after m L (FinePlace a) Free _ _ _ _ (target_twin q (fst_of c) a (tick s) (tick t) h e (ticked s t l)) (λ r s1 t1 f l1. seq _ _ _ _ (value_twin x (snd_of c) a s1 t1 h e l1)
        (λ y s2 t2 l2. seq _ _ _ _ (test (outside gang frame r a) Index (place_span q) s2 t2 y y refl l2) (λ n s3 t3 l3. done _ _ _ (keeps r a n s3 t3 h f l3))))
    simple_twin (t_update op k q x sp) c a s t h e l =
        after m L (FinePlace a) Free _ _ _ _ (target_twin q (fst_of c) a (tick s) (tick t) h e (ticked s t l)) (λ r s1 t1 f l1. seq _ _ _ _ (value_twin x (snd_of c) a s1 t1 h e l1)
        (λ y s2 t2 l2. update_twin op k q r y sp a s2 t2 h f l2))
    simple_twin (t_step op k q sp) c a s t h e l =
        after m L (FinePlace a) Free _ _ _ _ (target_twin q c a (tick s) (tick t) h e (ticked s t l)) (λ r s1 t1 f l1. update_twin op k q r (One 1) sp a s1 t1 h f l1)

    item_twin : (x : TItem) → Right ⊎ OfItem P x → Twins Free (item gang frame calls x) (item gang frame other x)
    item_twin (t_plain v k sp) c a s t h e l = done _ _ _ (ground.writes k.rate v a (One 0) (tick s) (tick t) h (ticked s t l))
    item_twin (t_with_value v k x sp) c a s t h e l = seq _ _ _ _ (value_twin x c a (tick s) (tick t) h e (ticked s t l)) (λ y s1 t1 l1. done _ _ _ (ground.writes k.rate v a y s1 t1 h l1))
    item_twin (t_with_size b sp) c a s t h e l = done _ _ _ (ground.clears b (right _ c) a (tick s) (tick t) h (ticked s t l))

    pub items_twin : (xs : List TItem) → Right ⊎ EachItem P xs → Twins Free (items gang frame calls xs) (items gang frame other xs)
    items_twin [] c a s t h e l = done _ s t l
    items_twin (x ∷ xs) c a s t h e l = seq _ _ _ _ (item_twin x (fst_of c) a s t h e l) (λ y s1 t1 l1. items_twin xs (snd_of c) a s1 t1 h e l1)

    pub first_part_twin : (x : Option TFirst) → Right ⊎ OfFirst P x → Twins Free (first_part gang frame calls x) (first_part gang frame other x)
    first_part_twin None c a s t h e l = done _ s t l
    first_part_twin (Some (t_first_declare xs sp)) c a s t h e l = items_twin xs c a (tick s) (tick t) h e (ticked s t l)
    first_part_twin (Some (t_first_simple x)) c a s t h e l = simple_twin x c a s t h e l

    pub step_part_twin : (x : Option TSimple) → Right ⊎ OfStep P x → Twins Free (step_part gang frame calls x) (step_part gang frame other x)
    step_part_twin None c a s t h e l = done _ s t l
    step_part_twin (Some x) c a s t h e l = simple_twin x c a s t h e l

    pub test_part_twin : (x : Option TExpr) → Right ⊎ OfTest P x → Twins (Out m) (test_part gang frame calls x) (test_part gang frame other x)
    test_part_twin None c a s t h e l = gives m L (Out m) _ _ s t refl (λ p _. tt) l
    test_part_twin (Some x) c a s t h e l = value_out x c a s t h e l

    pub ranges_twin : (rs : List TRange) → Right ⊎ EachRange P rs → Twins Free (ranges gang frame calls rs) (ranges gang frame other rs)
    ranges_twin [] c a s t h e l = done _ s t l
    ranges_twin (r ∷ rs) c a s t h e l =
        seq _ _ _ _ (value_twin r.start (left_of c) a s t h e l) (λ y s1 t1 l1. seq _ _ _ _ (value_twin r.end (middle_of c) a s1 t1 h e l1)
        (λ z s2 t2 l2. seq _ _ _ _ (ranges_twin rs (last_of c) a s2 t2 h e l2) (λ xs s3 t3 l3. done _ s3 t3 l3)))
