-- The code of expressions, assignments and declarations names few places: at most one or two for each node of the tree.
use Rattle.std.proofs.Common.{ℕ, suc, ◌+◌, ◌*◌, ◌≤◌, List, [], ◌∷◌, ◌++◌, length, Bool, true, false, arith, length-append}
use Rattle.std.specs.Prelude.{if◌then◌else◌}
use Rattle.isp_base.specs.Values.{divides}
use Rattle.isp_base.specs.declared.operators.BinOp.{BinOp}
use Rattle.isp_base.specs.declared.types.Span.{Span}
use Rattle.isp_tree.specs.Nodes.{nodes_of_all}
use Rattle.isp_typed.specs.Nodes.{typed_nodes, place_nodes, base_nodes, call_nodes, argument_nodes, arguments_nodes, exprs_nodes, item_nodes, simple_nodes}
use Rattle.isp_typed.specs.Typed.{TExpr, t_constant, t_program_index, t_place, t_convert, t_cast, t_unary, t_binary, t_compare, t_logic, t_choose, t_call, t_library, t_packed_store, t_packed_load}
use Rattle.isp_typed.specs.Typed.{TPlace, t_variable, t_element, TBase, t_whole, t_from, TArgument, t_by_value, t_by_name, TCall, t_called, TArguments, t_no_arguments, t_argument_then}
use Rattle.isp_typed.specs.Typed.{TExprs, t_no_exprs, t_expr_then, TItem, t_plain, t_with_value, t_with_size, TSimple, t_value, t_run, t_assign, t_update, t_step}
use Rattle.isp_lower_code.specs.Instructions.{operate_places}
use Rattle.isp_lower_code.specs.Items.{item_places, items_places}
use Rattle.isp_lower_code.specs.Layout.{Layout}
use Rattle.isp_lower_code.specs.Simple.{change_places, simple_places}
use Rattle.isp_lower_code.specs.Spans.{expr_places, index_places, read_places, base_places, values_places, call_places, arguments_places, argument_places}

both_few : (a b : List Span) (x y : ℕ) → length a ≤ x → length b ≤ y → length (a ++ b) ≤ x + y
both_few a b x y la lb = omega (arith, length-append a b)

then_one : (a : List Span) (s : Span) (y : ℕ) → length a ≤ y → length (a ++ s ∷ []) ≤ suc y
then_one a s y la = omega (arith, length-append a (s ∷ []))

both_then : (a b c : List Span) (x y : ℕ) → length a ≤ x → length b ≤ y → length c ≤ 1 → length (a ++ (b ++ c)) ≤ suc (x + y)
both_then a b c x y la lb lc = omega (arith, length-append a (b ++ c), length-append b c)

and_two : (a : List Span) (s : Span) (b : List Span) (y : ℕ) → length a ≤ y → length b ≤ 1 → length (a ++ (s ∷ b)) ≤ 1 + suc y
and_two a s b y la lb = omega (arith, length-append a (s ∷ b))

ended : (a b : List Span) (y : ℕ) → length b ≤ 0 → length a ≤ y → length (a ++ b) ≤ 1 + y
ended a b y lb la = omega (arith, length-append a b)

between : (a b c : List Span) (x y : ℕ) → length (a ++ c) ≤ 1 + x → length b ≤ y → length (a ++ (b ++ c)) ≤ 1 + (x + y)
between a b c x y lac lb = omega (arith, length-append a c, length-append a (b ++ c), length-append b c)

operate_places_few : (o : BinOp) (s : Span) → length (operate_places o s) ≤ 1
operate_places_few o s = where_so (divides o)
  where
    where_so : (b : Bool) → length (if b then s ∷ [] else []) ≤ 1
    where_so true = omega arith
    where_so false = omega arith

-- a place is a node itself
place_some : (q : TPlace) → 1 ≤ place_nodes q
place_some (t_variable v t sp) = omega arith
place_some (t_element b i t sp) = omega arith

module _ (l : Layout) where
  mutual
    pub expr_places_few : (x : TExpr) → length (expr_places l x) ≤ typed_nodes x
    expr_places_few (t_constant v sp) = omega arith
    expr_places_few (t_program_index sp) = omega arith
    expr_places_few (t_place q) = place_few q
    expr_places_few (t_convert e x) = omega (arith, expr_places_few x)
    expr_places_few (t_cast x t sp) = omega (arith, expr_places_few x)
    expr_places_few (t_unary o x t sp) = omega (arith, expr_places_few x)
    expr_places_few (t_binary o x y t sp) =
        both_then (expr_places l x) (expr_places l y) (operate_places o sp) (typed_nodes x) (typed_nodes y) (expr_places_few x) (expr_places_few y)
        (operate_places_few o sp)
    expr_places_few (t_compare c x y r sp) =
        omega (arith, both_few (expr_places l x) (expr_places l y) (typed_nodes x) (typed_nodes y) (expr_places_few x) (expr_places_few y))
    expr_places_few (t_logic g x y r sp) =
        omega (arith, both_few (expr_places l x) (expr_places l y) (typed_nodes x) (typed_nodes y) (expr_places_few x) (expr_places_few y))
    expr_places_few (t_choose c x y t sp) =
        let rest = expr_places l x ++ expr_places l y in
        omega (arith, both_few (expr_places l c) rest (typed_nodes c) (typed_nodes x + typed_nodes y) (expr_places_few c) (both_few (expr_places l x) (expr_places l y) (typed_nodes x) (typed_nodes y) (expr_places_few x) (expr_places_few y)))
    expr_places_few (t_call c t) = call_places_few c
    expr_places_few (t_library f e xs t sp) = omega (arith, values_places_few xs)
    expr_places_few (t_packed_store b x sp) =
        both_then (base_places l b) (expr_places l x) (sp ∷ []) (base_nodes b) (typed_nodes x) (base_places_few b) (expr_places_few x) (omega arith)
    expr_places_few (t_packed_load b v sp) = omega (arith, then_one (base_places l b) sp (base_nodes b) (base_places_few b))

    place_few : (q : TPlace) → length (index_places l q ++ read_places l q) ≤ place_nodes q
    place_few (t_variable v t sp) = omega arith
    place_few (t_element b i t sp) = then_one (expr_places l i) sp (typed_nodes i) (expr_places_few i)

    base_places_few : (b : TBase) → length (base_places l b) ≤ base_nodes b
    base_places_few (t_whole b sp) = omega arith
    base_places_few (t_from b i sp) = omega (arith, expr_places_few i)

    pub values_places_few : (xs : TExprs) → length (values_places l xs) ≤ exprs_nodes xs
    values_places_few t_no_exprs = omega arith
    values_places_few (t_expr_then x xs) =
        both_few (expr_places l x) (values_places l xs) (typed_nodes x) (exprs_nodes xs) (expr_places_few x) (values_places_few xs)

    call_places_few : (c : TCall) → length (call_places l c) ≤ call_nodes c
    call_places_few (t_called f xs sp) = then_one (arguments_places l xs) sp (arguments_nodes xs) (arguments_places_few xs)

    arguments_places_few : (xs : TArguments) → length (arguments_places l xs) ≤ arguments_nodes xs
    arguments_places_few t_no_arguments = omega arith
    arguments_places_few (t_argument_then x xs) =
        both_few (argument_places l x) (arguments_places l xs) (argument_nodes x) (arguments_nodes xs) (argument_places_few x) (arguments_places_few xs)

    argument_places_few : (x : TArgument) → length (argument_places l x) ≤ argument_nodes x
    argument_places_few (t_by_value x) = expr_places_few x
    argument_places_few (t_by_name b sp) = omega arith

  -- an element's place is named once by its index and once where it is read
  target_few : (q : TPlace) (rest : List Span) (y : ℕ) → length rest ≤ y → length (index_places l q ++ (rest ++ read_places l q)) ≤ place_nodes q + y
  target_few (t_variable v t sp) rest y h = ended rest [] y (omega arith) h
  target_few (t_element b i t sp) rest y h = omega (arith, both_then (expr_places l i) rest (sp ∷ []) (typed_nodes i) y (expr_places_few i) h (omega arith))

  change_places_few : (o : BinOp) (q : TPlace) (sp : Span) → length (index_places l q ++ change_places l o q sp) ≤ 1 + place_nodes q
  change_places_few o (t_variable v t s) sp = omega (arith, operate_places_few o sp)
  change_places_few o (t_element b i t s) sp =
      and_two (expr_places l i) s (operate_places o sp) (typed_nodes i) (expr_places_few i) (operate_places_few o sp)

  update_places_few : (o : BinOp) (q : TPlace) (x : TExpr) (sp : Span)
      → length (index_places l q ++ (expr_places l x ++ change_places l o q sp)) ≤ 1 + (place_nodes q + typed_nodes x)
  update_places_few o q x sp =
      between (index_places l q) (expr_places l x) (change_places l o q sp) (place_nodes q) (typed_nodes x) (change_places_few o q sp) (expr_places_few x)

  pub simple_places_few : (x : TSimple) → length (simple_places l x) ≤ 2 * simple_nodes x
  simple_places_few (t_value x) = omega (arith, expr_places_few x)
  simple_places_few (t_run c) = omega (arith, call_places_few c)
  simple_places_few (t_assign q x sp) = omega (arith, target_few q (expr_places l x) (typed_nodes x) (expr_places_few x))
  simple_places_few (t_update o t q x sp) = omega (arith, place_some q, update_places_few o q x sp)
  simple_places_few (t_step o t q sp) = omega (arith, place_some q, change_places_few o q sp)

  item_places_few : (x : TItem) → length (item_places l x) ≤ item_nodes x
  item_places_few (t_plain v t sp) = omega arith
  item_places_few (t_with_value v t x sp) = omega (arith, expr_places_few x)
  item_places_few (t_with_size b sp) = omega arith

  pub items_places_few : (xs : List TItem) → length (items_places l xs) ≤ nodes_of_all item_nodes xs
  items_places_few [] = omega arith
  items_places_few (x ∷ xs) =
      both_few (item_places l x) (items_places l xs) (item_nodes x) (nodes_of_all item_nodes xs) (item_places_few x) (items_places_few xs)
