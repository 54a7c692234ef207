-- The masks that code asks for are few: they have the numbers of its slots, which are in step with the nodes of its tree.
use Rattle.std.proofs.Common.{ℕ, ◌+◌, ◌*◌, ◌≤◌, Bool, true, false, List, arith}
use Rattle.isp_base.specs.Ranks.{same_elem}
use Rattle.isp_base.specs.declared.types.Elem.{Elem}
use Rattle.isp_base.specs.declared.types.Elem.TheVariants.{I64}
use Rattle.isp_base.specs.declared.types.Rate.{Rate}
use Rattle.isp_base.specs.declared.types.Rate.TheVariants.{Uniform, Varying}
use Rattle.isp_typed.specs.Nodes.{typed_nodes, place_nodes, base_nodes, call_nodes, argument_nodes, arguments_nodes, exprs_nodes, simple_nodes}
use Rattle.isp_typed.specs.Typed.{TExpr, t_constant, t_program_index, t_place, t_convert, t_cast, t_unary, t_binary, t_compare, t_logic, t_choose, t_call, t_library, t_packed_store, t_packed_load, type_of, place_type}
use Rattle.isp_typed.specs.Typed.{TPlace, t_variable, t_element, TBase, t_whole, t_from, TArgument, t_by_value, t_by_name, TCall, t_called, TArguments, t_no_arguments, t_argument_then, TExprs, t_no_exprs}
use Rattle.isp_typed.specs.Typed.{t_expr_then, TSimple, t_value, t_run, t_assign, t_update, t_step}
use Rattle.isp_lower_code.specs.Asks.{lift_asks, run_asks, start_asks, place_asks, test_asks, sides_ask, value_asks, copy_asks, read_asks, work_asks, change_asks}
use Rattle.isp_lower_code.specs.Asks.{first_slot, second_slot, beyond, expr_asks, target_asks, first_asks, values_asks, call_asks, arguments_asks, argument_asks, simple_asks}
use Rattle.isp_lower_code.specs.Callees.{later, next_rate}
use Rattle.isp_lower_code.specs.Library.{library_rates}
use Rattle.isp_lower_code.specs.Room.{masks_with}
use Rattle.isp_lower_code.proofs.AskNumbers.{argument_some, expr_some, first_near, second_near, beyond_near}

-- ---- of at most b masks, the parts that go by rates leave at most b

module _ (b : ℕ) where
  lift_masks : (r g : Rate) (t : Elem) (n m : ℕ) → m ≤ b → masks_with m (lift_asks r g t n) ≤ b
  lift_masks Uniform g t n m h = h
  lift_masks Varying Uniform t n m h = h
  lift_masks Varying Varying t n m h = h

  counter_masks : (r : Rate) (m : ℕ) → m ≤ b → masks_with m (place_asks r) ≤ b
  counter_masks Uniform m h = h
  counter_masks Varying m h = h

  start_masks : (i : TExpr) (n m : ℕ) → m ≤ b → masks_with m (start_asks i n) ≤ b
  start_masks (t_program_index s) n m h = h
  start_masks (t_place (t_variable v t s)) n m h = counter_masks t.rate m h
  start_masks (t_place (t_element a i t s)) n m h = h
  start_masks x n m h = h

  run_masks : (r : Rate) (i : TExpr) (n m : ℕ) → m ≤ b → masks_with m (run_asks r i n) ≤ b
  run_masks Uniform i n m h = start_masks i n m h
  run_masks Varying i n m h = h

  test_masks : (r : Rate) (n m : ℕ) → m ≤ b → n + 1 ≤ b → masks_with m (test_asks r n) ≤ b
  test_masks Uniform n m h low = h
  test_masks Varying n m h low = omega (arith, h, low)

  sides_masks : (r : Rate) (n m : ℕ) → m ≤ b → n + 2 ≤ b → masks_with m (sides_ask r n) ≤ b
  sides_masks Uniform n m h low = h
  sides_masks Varying n m h low = omega (arith, h, low)

  copy_masks : (r : Rate) (t : Elem) (n m : ℕ) → m ≤ b → masks_with m (copy_asks r t n) ≤ b
  copy_masks Uniform t n m h = h
  copy_masks Varying t n m h = h

  value_masks : (p : TPlace) (n m : ℕ) → m ≤ b → masks_with m (value_asks p n) ≤ b
  value_masks (t_variable v t s) n m h = copy_masks t.rate t.elem n m h
  value_masks (t_element a i t s) n m h = h

  work_masks : (k : Bool) (r : Rate) (t : Elem) (n m : ℕ) → m ≤ b → masks_with m (work_asks k r t n) ≤ b
  work_masks true r t n m h = h
  work_masks false r t n m h = h

  read_masks : (p : TPlace) (n m : ℕ) → m ≤ b → masks_with m (read_asks p n) ≤ b
  read_masks (t_variable v t s) n m h = h
  read_masks (t_element a i t s) n m h = h

  change_masks : (e : Elem) (p : TPlace) (n m : ℕ) → m ≤ b → masks_with m (change_asks e p n) ≤ b
  change_masks e p n m h = read_masks p n _ (work_masks (same_elem (place_type p).elem e) (place_type p).rate e n m h)

  -- an expression in slot n, of the second rate, is wanted at the first
  lifted : (r : Rate) (x : TExpr) (n m : ℕ) → m ≤ b → masks_with m (lift_asks r (type_of x).rate (type_of x).elem n) ≤ b
  lifted r x n m h = lift_masks r (type_of x).rate (type_of x).elem n m h

  -- ---- expressions

  mutual
    pub expr_masks : (x : TExpr) (n m : ℕ) → m ≤ b → n + 4 * typed_nodes x ≤ b → masks_with m (expr_asks x n) ≤ b
    expr_masks (t_constant v s) n m h low = h
    expr_masks (t_program_index s) n m h low = h
    expr_masks (t_place p) n m h low = value_masks p n _ (place_masks p n m h low)
    expr_masks (t_convert e x) n m h low = expr_masks x n m h (omega (arith, low))
    expr_masks (t_cast x t s) n m h low = expr_masks x n _ (lifted t.rate x n m h) (omega (arith, low))
    expr_masks (t_unary o x t s) n m h low = expr_masks x n _ (lifted t.rate x n m h) (omega (arith, low))
    expr_masks (t_binary o x y t s) n m h low = expr_masks y (n + 1) _ (lifted t.rate y (n + 1) _ (expr_masks x n _ (lifted t.rate x n m h) (omega (arith, low)))) (omega (arith, low))
    expr_masks (t_compare c x y r s) n m h low = expr_masks y (n + 1) _ (lifted r y (n + 1) _ (expr_masks x n _ (lifted r x n m h) (omega (arith, low)))) (omega (arith, low))
    expr_masks (t_logic g x y r s) n m h low =
        expr_masks y (n + 1) _ (lifted r y (n + 1) _ (expr_masks x n _ (lifted r x n _ (test_masks r n m h (omega (arith, low)))) (omega (arith, low)))) (omega (arith, low))
    expr_masks (t_choose c x y t s) n m h low =
        let g = (type_of c).rate in
        let i = first_slot g n in
        let j = second_slot g n in
        let test = expr_masks c n m h (omega (arith, low)) in
        let left = expr_masks x i _ (lifted t.rate x i _ test) (omega (arith, low, first_near g n)) in
        let right = expr_masks y j _ (lifted t.rate y j _ left) (omega (arith, low, second_near g n)) in
        sides_masks g n _ right (omega (arith, low))
    expr_masks (t_call c t) n m h low = call_masks c n m h low
    expr_masks (t_library g e xs t s) n m h low = values_masks (library_rates g t.rate) xs n m h (omega (arith, low))
    expr_masks (t_packed_store p x s) n m h low = expr_masks x (n + 1) _ (lifted Varying x (n + 1) _ (base_masks p n m h (omega (arith, low)))) (omega (arith, low))
    expr_masks (t_packed_load p v s) n m h low = base_masks p n m h (omega (arith, low))

    place_masks : (p : TPlace) (n m : ℕ) → m ≤ b → n + 4 * place_nodes p ≤ b → masks_with m (target_asks p n) ≤ b
    place_masks (t_variable v t s) n m h low = h
    place_masks (t_element a i t s) n m h low = expr_masks i n _ (lift_masks t.rate (type_of i).rate I64 n _ (run_masks a.ty.rate i n m h)) (omega (arith, low))

    base_masks : (p : TBase) (n m : ℕ) → m ≤ b → n + 4 * base_nodes p ≤ b → masks_with m (first_asks p n) ≤ b
    base_masks (t_whole a s) n m h low = h
    base_masks (t_from a i s) n m h low = expr_masks i n _ (lift_masks Uniform (type_of i).rate I64 n m h) (omega (arith, low))

    call_masks : (c : TCall) (n m : ℕ) → m ≤ b → n + 4 * call_nodes c ≤ b → masks_with m (call_asks c n) ≤ b
    call_masks (t_called k xs s) n m h low = arguments_masks xs n m h (omega (arith, low))

    arguments_masks : (xs : TArguments) (n m : ℕ) → m ≤ b → n + 4 * arguments_nodes xs ≤ b → masks_with m (arguments_asks xs n) ≤ b
    arguments_masks t_no_arguments n m h low = h
    arguments_masks (t_argument_then x xs) n m h low =
        arguments_masks xs (n + 1) _ (argument_masks x n m h (omega (arith, low))) (omega (arith, low, argument_some x))

    argument_masks : (x : TArgument) (n m : ℕ) → m ≤ b → n + 4 * argument_nodes x ≤ b → masks_with m (argument_asks x n) ≤ b
    argument_masks (t_by_value x) n m h low = expr_masks x n _ (lifted Varying x n m h) low
    argument_masks (t_by_name a s) n m h low = h

    values_masks : (rs : List Rate) (xs : TExprs) (n m : ℕ) → m ≤ b → n + 4 * exprs_nodes xs ≤ b → masks_with m (values_asks rs xs n) ≤ b
    values_masks rs t_no_exprs n m h low = h
    values_masks rs (t_expr_then x xs) n m h low =
        values_masks (later rs) xs (n + 1) _ (expr_masks x n _ (lifted (next_rate rs) x n m h) (omega (arith, low))) (omega (arith, low, expr_some x))

  -- ---- what stands before a semicolon

  pub simple_masks : (x : TSimple) (n m : ℕ) → m ≤ b → n + 4 * simple_nodes x + 8 ≤ b → masks_with m (simple_asks x n) ≤ b
  simple_masks (t_value x) n m h low = expr_masks x n m h (omega (arith, low))
  simple_masks (t_run c) n m h low = call_masks c n m h (omega (arith, low))
  simple_masks (t_assign p x s) n m h low =
      let r = (place_type p).rate in
      expr_masks x (beyond p n) _ (lifted r x (beyond p n) _ (place_masks p n m h (omega (arith, low)))) (omega (arith, low, beyond_near p n))
  simple_masks (t_update o e p x s) n m h low =
      let r = (place_type p).rate in
      let right = expr_masks x (beyond p n) _ (lifted r x (beyond p n) _ (place_masks p n m h (omega (arith, low)))) (omega (arith, low, beyond_near p n)) in
      change_masks e p (beyond p n + 1) _ right
  simple_masks (t_step o e p s) n m h low =
      change_masks e p (beyond p n + 1) _ (lift_masks (place_type p).rate Uniform e (beyond p n) _ (place_masks p n m h (omega (arith, low))))
