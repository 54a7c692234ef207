-- Expressions and simple statements: where the calls trap in a member of the set, so do they, one line a node.
use Rattle.std.proofs.Common.{◌≡◌, ℕ, Bool, true, false}
use Rattle.std.specs.Prelude.{List, [], ◌∷◌, ◌++◌, Option, Some, None, Contains}
use Rattle.std.proofs.lemmas.List.Elements.{Contains-append_left, Contains-append_right, Contains-push}
use Rattle.isp_base.specs.Access.{is_zero, is_outside}
use Rattle.isp_base.specs.Cross.{packed_outside, packed_index}
use Rattle.isp_base.specs.Access.{is_beyond}
use Rattle.isp_base.specs.Sets.{Mask, any}
use Rattle.isp_base.specs.Types.{gang_width}
use Rattle.isp_base.specs.declared.operators.BinOp.{BinOp}
use Rattle.isp_base.specs.declared.trap.TrapKind.TheVariants.{Divide, Index}
use Rattle.isp_base.specs.declared.types.Elem.{Elem}
use Rattle.isp_base.specs.declared.types.Span.{Span}
use Rattle.isp_typed.specs.Typed.{TExpr, t_constant, t_program_index, t_place, t_convert, t_cast, t_unary, t_binary, t_compare, t_logic, t_choose, t_call, t_library}
use Rattle.isp_typed.specs.Typed.{t_packed_store, t_packed_load, TPlace, t_variable, t_element, TBase, t_whole, t_from, TArgument, t_by_value, t_by_name, TCall, t_called}
use Rattle.isp_typed.specs.Typed.{TArguments, t_no_arguments, t_argument_then, TExprs, t_exprs, t_no_exprs, t_expr_then, place_span}
use Rattle.isp_typed.specs.Typed.{TItem, t_plain, t_with_value, t_with_size, TSimple, t_value, t_run, t_assign, t_update, t_step, TFirst, t_first_declare, t_first_simple, TRange, Program}
use Rattle.isp_independence.specs.Reaches.{expr_calls, place_calls, base_calls, call_calls, argument_calls, arguments_calls, values_calls, item_calls, simple_calls, first_calls, range_calls, calls_of_any, calls_of_each}
use Rattle.isp_meaning.specs.Calls.{calls_at}
use Rattle.isp_meaning.specs.Expressions.{Passed, needs, base_array, value, place, first_element, values, call, arguments, passed}
use Rattle.isp_meaning.specs.Laws.{LeavesBy}
use Rattle.isp_meaning.specs.Outcomes.{Val, Gives, Fails, Stops, bind, checked, value_unless_empty}
use Rattle.isp_meaning.specs.Payloads.{Payload, One, is_true, is_false, kept_by}
use Rattle.isp_meaning.specs.Places.{Place, Variable, Element, outside}
use Rattle.isp_meaning.specs.Simple.{update, simple, item, items, first_part, step_part}
use Rattle.isp_meaning.specs.State.{State, Frame, tick, extent}
use Rattle.isp_meaning.specs.Statements.{ranges, test_part}
use Rattle.isp_meaning.proofs.Others.{others_stay}
use Rattle.isp_meaning_laws.proofs.MemberSets.{NoneOut, kept_inside, and_inside, Sub, sub_inside, Named, Free, gives_named, bind_named, value_if_named, lowest_checked, offender_checked}

abbrev pub Each_of : (ℕ → Type 0) → List ℕ → Type 0
Each_of Ok ks = (k : ℕ) → Contains ks k → Ok k

pub first : (Ok : ℕ → Type 0) (xs ys : List ℕ) → Each_of Ok (xs ++ ys) → Each_of Ok xs
first Ok xs ys c k h = c k (Contains-append_left xs ys k h)

pub second : (Ok : ℕ → Type 0) (xs ys : List ℕ) → Each_of Ok (xs ++ ys) → Each_of Ok ys
second Ok xs ys c k h = c k (Contains-append_right xs ys k h)

-- no index outside the set
abbrev PlaceOut : Mask → Place → Type 0
PlaceOut a (Variable v t) = Unit {0}
PlaceOut a (Element b t i) = NoneOut a i

module _ (program : Program) (most : ℕ) (m : Mask) (Ok : ℕ → Type 0) where
  -- calls of these functions with so many levels left
  abbrev pub CallsNamed : ℕ → Type 0
  CallsNamed left =
      (f : ℕ) → Ok f → (sp : Span) (a : Mask) (xs : List Passed) (caller : Frame) (s : State) → Sub (gang_width program.gang) m a → any (gang_width program.gang) a ≡ true
      → Named (gang_width program.gang) m Free (calls_at program most left f sp a xs caller s)

module _ (program : Program) (most left : ℕ) (m : Mask) (Ok : ℕ → Type 0) (calls : CallsNamed program most m Ok left) (frame : Frame) where
  abbrev N : ℕ
  N = gang_width program.gang

  abbrev K : ℕ → Span → Mask → List Passed → Frame → State → Val Payload
  K = calls_at program most left

  abbrev Safe : {A : Type 0} → (A → Type 0) → Val A → Type 0
  Safe Q v = Named N m Q v

  -- a value is one of the members
  none_out : (x : TExpr) (a : Mask) (s : State) → Safe Free (value N frame K x a s) → Safe (NoneOut a) (value N frame K x a s)
  none_out x a s h = go (value N frame K x a s) h (λ p e. others_stay.expression program most left frame x a s p e) where
    go : (v : Val Payload) → Safe Free v → ((p : ℕ) → a p ≡ false → LeavesBy p s v) → Safe (NoneOut a) v
    go (Gives y s1) h k = record { by = λ p e. (k p e).0 }
    go (Fails t s1) h k = record { by = h.by }
    go (Stops s1) h k = record { by = tt }

  outside_checked : {A : Type 0} (Q : A → Type 0) (q : Place) (a : Mask) (place : Span) (s : State) (x : A) → Sub N m a → PlaceOut a q → Q x → Safe Q (checked (outside N frame q a) Index place s x)
  outside_checked Q (Variable v t) a place s x sub h q = gives_named N m Q x s q
  outside_checked Q (Element b t i) a place s x sub h q = offender_checked N m Q (is_outside t (extent frame b)) a i Index place s x sub h q

  then : {A B : Type 0} (Q : A → Type 0) (R : B → Type 0) (v : Val A) (go : A → State → Val B) → Safe Q v → ((x : A) (s : State) → Q x → Safe R (go x s)) → Safe R (bind v go)
  then Q R v go h k = bind_named N m Q R v go h k

  done : {A : Type 0} (x : A) (s : State) → Safe Free (Gives x s)
  done x s = gives_named N m Free x s tt

  left_of : (xs ys : List ℕ) → Each_of Ok (xs ++ ys) → Each_of Ok xs
  left_of xs ys c = first Ok xs ys c

  right_of : (xs ys : List ℕ) → Each_of Ok (xs ++ ys) → Each_of Ok ys
  right_of xs ys c = second Ok xs ys c

  abbrev Good : {A : Type 0} → (A → Type 0) → (Mask → State → Val A) → Type 0
  Good Q v = (a : Mask) (s : State) → Sub N m a → any N a ≡ true → Safe Q (v a s)

  -- a later operand runs over those that need it, if there are any
  needed : (f : ℕ → Bool) (a : Mask) (k : Payload) (s : State) (v : Mask → State → Val Payload) → Sub N m a → NoneOut a k → Good Free v → Safe Free (value_unless_empty N (kept_by f a k) s v)
  needed f a k s v sub h go =
      value_if_named N m Free (any N (kept_by f a k)) _ _ s (λ e. go (kept_by f a k) s (sub_inside N m a _ sub (kept_inside f a k h)) e) (done _ s)

  mutual
    value_named : (x : TExpr) → Each_of Ok (expr_calls x) → Good Free (value N frame K x)
    value_named (t_constant v sp) c a s h e = done _ (tick s)
    value_named (t_program_index sp) c a s h e = done _ (tick s)
    value_named (t_place q) c a s h e = then (PlaceOut a) Free _ _ (place_named q c a s h e) (λ r s1 k. outside_checked Free r a (place_span q) s1 _ h k tt)
    value_named (t_convert t x) c a s h e = then Free Free _ _ (value_named x c a s h e) (λ y s1 _. done _ s1)
    value_named (t_cast x t sp) c a s h e = value_named x c a (tick s) h e
    value_named (t_unary op x t sp) c a s h e = then Free Free _ _ (value_named x c a (tick s) h e) (λ y s1 _. done _ s1)
    value_named (t_binary op x y t sp) c a s h e =
        then Free Free _ _ (value_named x (left_of _ _ c) a (tick s) h e) (λ i s1 _. then (NoneOut a) Free _ _ (none_out y a s1 (value_named y (right_of (expr_calls x) _ c) a s1 h e))
        (λ j s2 k. offender_checked N m Free (is_zero op t.elem) a j Divide sp s2 _ h k tt))
    value_named (t_compare o x y r sp) c a s h e =
        then Free Free _ _ (value_named x (left_of _ _ c) a (tick s) h e) (λ i s1 _. then Free Free _ _ (value_named y (right_of (expr_calls x) _ c) a s1 h e) (λ j s2 _. done _ s2))
    value_named (t_logic l x y r sp) c a s h e =
        then (NoneOut a) Free _ _ (none_out x a (tick s) (value_named x (left_of _ _ c) a (tick s) h e)) (λ i s1 k. then Free Free _ _ (needed (needs l) a i s1 (value N frame K y) h k (value_named y (right_of (expr_calls x) _ c)))
        (λ j s2 _. done _ s2))
    value_named (t_choose x y z t sp) c a s h e =
        let d = left_of (expr_calls x ++ expr_calls y) (expr_calls z) c in
        then (NoneOut a) Free _ _ (none_out x a (tick s) (value_named x (left_of (expr_calls x) (expr_calls y) d) a (tick s) h e))
        (λ i s1 k. then Free Free _ _ (needed is_true a i s1 (value N frame K y) h k (value_named y (right_of (expr_calls x) (expr_calls y) d)))
        (λ j s2 _. then Free Free _ _ (needed is_false a i s2 (value N frame K z) h k (value_named z (right_of (expr_calls x ++ expr_calls y) (expr_calls z) c))) (λ n s3 _. done _ s3)))
    value_named (t_call x t) c a s h e = call_named x c a s h e
    value_named (t_library f t xs r sp) c a s h e = then Free Free _ _ (values_named xs c a (tick s) h e) (λ ys s1 _. done _ s1)
    value_named (t_packed_store b x sp) c a s h e =
        then Free Free _ _ (first_named b (left_of _ _ c) a (tick s) h e) (λ z s1 _. then Free Free _ _ (value_named x (right_of (base_calls b) _ c) a s1 h e)
        (λ y s2 _. then Free Free _ _ (lowest_checked N m Free (packed_outside (extent frame (base_array b)) z a) Index sp s2 y (sub_inside N m a _ h (and_inside a (λ p. is_beyond (extent frame (base_array b)) (packed_index z a p)))) tt)
        (λ n s3 _. done _ _)))
    value_named (t_packed_load b v sp) c a s h e =
        then Free Free _ _ (first_named b c a (tick s) h e) (λ z s1 _. then Free Free _ _ (lowest_checked N m Free (packed_outside (extent frame (base_array b)) z a) Index sp (tick s1) _ (sub_inside N m a _ h (and_inside a
        (λ p. is_beyond (extent frame (base_array b)) (packed_index z a p)))) tt) (λ n s2 _. done _ _))

    place_named : (q : TPlace) → Each_of Ok (place_calls q) → (a : Mask) (s : State) → Sub N m a → any N a ≡ true → Safe (PlaceOut a) (place N frame K q a s)
    place_named (t_variable v t sp) c a s h e = gives_named N m (PlaceOut a) _ (tick s) tt
    place_named (t_element b i t sp) c a s h e =
        then (NoneOut a) (PlaceOut a) _ _ (none_out i a (tick s) (value_named i c a (tick s) h e)) (λ y s1 k. gives_named N m (PlaceOut a) _ s1 k)

    first_named : (b : TBase) → Each_of Ok (base_calls b) → Good Free (first_element N frame K b)
    first_named (t_whole b sp) c a s h e = done _ (tick s)
    first_named (t_from b i sp) c a s h e = then Free Free _ _ (value_named i c a (tick s) h e) (λ y s1 _. done _ s1)

    values_named : (xs : TExprs) → Each_of Ok (values_calls xs) → Good Free (values N frame K xs)
    values_named t_no_exprs c a s h e = done _ s
    values_named (t_expr_then x xs) c a s h e =
        then Free Free _ _ (value_named x (left_of _ _ c) a s h e) (λ y s1 _. then Free Free _ _ (values_named xs (right_of (expr_calls x) _ c) a s1 h e) (λ ys s2 _. done _ s2))

    call_named : (x : TCall) → Each_of Ok (call_calls x) → Good Free (call N frame K x)
    call_named (t_called f xs sp) c a s h e =
        then Free Free _ _ (arguments_named xs (left_of _ _ c) a (tick s) h e) (λ ps s1 _. calls f (c f (Contains-push (arguments_calls xs) f)) sp a ps frame s1 h e)

    arguments_named : (xs : TArguments) → Each_of Ok (arguments_calls xs) → Good Free (arguments N frame K xs)
    arguments_named t_no_arguments c a s h e = done _ s
    arguments_named (t_argument_then x xs) c a s h e =
        then Free Free _ _ (passed_named x (left_of _ _ c) a s h e) (λ y s1 _. then Free Free _ _ (arguments_named xs (right_of (argument_calls x) _ c) a s1 h e) (λ ys s2 _. done _ s2))

    passed_named : (x : TArgument) → Each_of Ok (argument_calls x) → Good Free (passed N frame K x)
    passed_named (t_by_value x) c a s h e = then Free Free _ _ (value_named x c a s h e) (λ y s1 _. done _ s1)
    passed_named (t_by_name b sp) c a s h e = done _ (tick s)

  pub value_out : (x : TExpr) → Each_of Ok (expr_calls x) → (a : Mask) (s : State) → Sub N m a → any N a ≡ true → Safe (NoneOut a) (value N frame K x a s)
  value_out x c a s h e = none_out x a s (value_named x c a s h e)

  pub value_free : (x : TExpr) → Each_of Ok (expr_calls x) → Good Free (value N frame K x)
  value_free = value_named

  -- the values of a list
  pub listed_named : (xs : List TExpr) → Each_of Ok (calls_of_each expr_calls xs) → Good Free (values N frame K (t_exprs xs))
  listed_named [] c a s h e = done _ s
  listed_named (x ∷ xs) c a s h e =
      then Free Free _ _ (value_named x (left_of _ _ c) a s h e) (λ y s1 _. then Free Free _ _ (listed_named xs (right_of (expr_calls x) _ c) a s1 h e) (λ ys s2 _. done _ s2))

  -- ---- simple statements

  update_named : (op : BinOp) (t : Elem) (q : TPlace) (r : Place) (y : Payload) (sp : Span) (a : Mask) (s : State) → Sub N m a → PlaceOut a r → NoneOut a y → Safe Free (update N frame K op t q r y sp a s)
  update_named op t q r y sp a s h k i =
      then Free Free _ _ (outside_checked Free r a (place_span q) s _ h k tt) (λ x s1 _. then Free Free _ _ (offender_checked N m Free (is_zero op t) a y Divide sp s1 _ h i tt) (λ z s2 _. done _ _))

  pub simple_named : (x : TSimple) → Each_of Ok (simple_calls x) → Good Free (simple N frame K x)
  simple_named (t_value x) c a s h e = then Free Free _ _ (value_named x c a (tick s) h e) (λ y s1 _. done _ s1)
  simple_named (t_run x) c a s h e = then Free Free _ _ (call_named x c a (tick s) h e) (λ y s1 _. done _ s1)
  simple_named (t_assign q x sp) c a s h e =
      then (PlaceOut a) Free _ _ (place_named q (left_of _ _ c) a (tick s) h e) (λ r s1 k. then Free Free _ _ (value_named x (right_of (place_calls q) _ c) a s1 h e)
      (λ y s2 _. then Free Free _ _ (outside_checked Free r a (place_span q) s2 y h k tt) (λ n s3 _. done _ _)))
  simple_named (t_update op t q x sp) c a s h e =
      then (PlaceOut a) Free _ _ (place_named q (left_of _ _ c) a (tick s) h e) (λ r s1 k. then (NoneOut a) Free _ _ (value_out x (right_of (place_calls q) _ c) a s1 h e) (λ y s2 i. update_named op t q r y sp a s2 h k i))
  simple_named (t_step op t q sp) c a s h e =
      then (PlaceOut a) Free _ _ (place_named q c a (tick s) h e) (λ r s1 k. update_named op t q r (One 1) sp a s1 h k (λ p _. tt))

  item_named : (x : TItem) → Each_of Ok (item_calls x) → Good Free (item N frame K x)
  item_named (t_plain v t sp) c a s h e = done _ _
  item_named (t_with_value v t x sp) c a s h e = then Free Free _ _ (value_named x c a (tick s) h e) (λ y s1 _. done _ _)
  item_named (t_with_size b sp) c a s h e = done _ _

  pub items_named : (xs : List TItem) → Each_of Ok (calls_of_each item_calls xs) → Good Free (items N frame K xs)
  items_named [] c a s h e = done _ s
  items_named (x ∷ xs) c a s h e = then Free Free _ _ (item_named x (left_of _ _ c) a s h e) (λ y s1 _. items_named xs (right_of (item_calls x) _ c) a s1 h e)

  pub first_part_named : (x : Option TFirst) → Each_of Ok (calls_of_any first_calls x) → Good Free (first_part N frame K x)
  first_part_named None c a s h e = done _ s
  first_part_named (Some (t_first_declare xs sp)) c a s h e = items_named xs c a (tick s) h e
  first_part_named (Some (t_first_simple x)) c a s h e = simple_named x c a s h e

  pub step_part_named : (x : Option TSimple) → Each_of Ok (calls_of_any simple_calls x) → Good Free (step_part N frame K x)
  step_part_named None c a s h e = done _ s
  step_part_named (Some x) c a s h e = simple_named x c a s h e

  pub test_part_out : (x : Option TExpr) → Each_of Ok (calls_of_any expr_calls x) → (a : Mask) (s : State) → Sub N m a → any N a ≡ true → Safe (NoneOut a) (test_part N frame K x a s)
  test_part_out None c a s h e = gives_named N m (NoneOut a) (One 1) s (λ p _. tt)
  test_part_out (Some x) c a s h e = value_out x c a s h e

  pub ranges_named : (rs : List TRange) → Each_of Ok (calls_of_each range_calls rs) → Good Free (ranges N frame K rs)
  ranges_named [] c a s h e = done _ s
  ranges_named (r ∷ rs) c a s h e =
      let both = left_of (range_calls r) (calls_of_each range_calls rs) c in
      then Free Free _ _ (value_named r.start (left_of (expr_calls r.start) (expr_calls r.end) both) a s h e) (λ y s1 _. then Free Free _ _ (value_named r.end (right_of (expr_calls r.start) (expr_calls r.end) both) a s1 h e)
      (λ z s2 _. then Free Free _ _ (ranges_named rs (right_of (range_calls r) _ c) a s2 h e) (λ xs s3 _. done _ s3)))
