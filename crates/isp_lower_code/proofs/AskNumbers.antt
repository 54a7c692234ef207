-- What the code of an expression, or of what stands before a semicolon, asks for is little by its nodes: no number is too great,
-- and there are few registers.
use Rattle.std.proofs.Common.{◌≡◌, ℕ, suc, ◌+◌, ◌*◌, ◌<◌, ◌≤◌, List, [], ◌∷◌, length, Bool, true, false, Option, Some, None, arith}
use Rattle.std.specs.List.{All}
use Rattle.std.proofs.lemmas.Option.{slice_get_within}
use Rattle.isp_base.specs.Ranks.{same_elem}
use Rattle.isp_base.specs.declared.types.Elem.{Elem}
use Rattle.isp_base.specs.declared.types.Elem.TheVariants.{I64}
use Rattle.isp_base.specs.declared.types.Rate.{Rate}
use Rattle.isp_base.specs.declared.types.Rate.TheVariants.{Uniform, Varying}
use Rattle.isp_base.specs.declared.types.Ty.{Ty}
use Rattle.isp_typed.specs.Fine.{FineExpr, FinePlace, FineBase, FineCall, FineArguments, FineArgument, FineParts, FineTarget, FineItem, FineSimple, params_of}
use Rattle.isp_typed.specs.Library.{parts}
use Rattle.isp_typed.specs.Nodes.{typed_nodes, place_nodes, base_nodes, call_nodes, argument_nodes, arguments_nodes, exprs_nodes, item_nodes, simple_nodes}
use Rattle.isp_typed.specs.Typed.{TFunction, TExpr, t_constant, t_program_index, t_place, t_convert, t_cast, t_unary, t_binary, t_compare, t_logic, t_choose, t_call, t_library, t_packed_store, t_packed_load, type_of, place_type}
use Rattle.isp_typed.specs.Typed.{TPlace, t_variable, t_element, TBase, t_whole, t_from, TArgument, t_by_value, t_by_name, TCall, t_called, TArguments, t_no_arguments, t_argument_then, TExprs, t_no_exprs}
use Rattle.isp_typed.specs.Typed.{t_expr_then, t_exprs, TItem, t_plain, t_with_value, t_with_size, TSimple, t_value, t_run, t_assign, t_update, t_step}
use Rattle.isp_typed.specs.declared.library.Part.{Part}
use Rattle.isp_typed.specs.declared.variable.Holds.{Holds}
use Rattle.isp_typed.specs.declared.variable.Holds.TheVariants as holds
use Rattle.isp_typed.specs.declared.variable.Variable.{Variable}
use Rattle.isp_lower_code.specs.Asks.{Ask, lift_asks, taken, pair_asks, run_asks, element_asks, start_asks, place_asks, test_asks, sides_ask, value_asks, copy_asks, read_asks, work_asks, change_asks, zero_asks}
use Rattle.isp_lower_code.specs.Asks.{first_slot, second_slot, beyond, expr_asks, target_asks, first_asks, values_asks, call_asks, arguments_asks, argument_asks, operand_asks, index_asks, simple_asks, item_asks}
use Rattle.isp_lower_code.specs.Callees.{later, next_rate}
use Rattle.isp_lower_code.specs.Library.{library_rates}
use Rattle.isp_lower_code.specs.Room.{HasNumbers, registers_asked}

-- ---- each has a node

pub expr_some : (x : TExpr) → 1 ≤ typed_nodes x
expr_some (t_constant v s) = omega arith
expr_some (t_program_index s) = omega arith
expr_some (t_place (t_variable v t s)) = omega arith
expr_some (t_place (t_element a i t s)) = omega arith
expr_some (t_convert e x) = omega arith
expr_some (t_cast x t s) = omega arith
expr_some (t_unary o x t s) = omega arith
expr_some (t_binary o x y t s) = omega arith
expr_some (t_compare c x y r s) = omega arith
expr_some (t_logic g x y r s) = omega arith
expr_some (t_choose c x y t s) = omega arith
expr_some (t_call (t_called k xs s) t) = omega arith
expr_some (t_library g e xs t s) = omega arith
expr_some (t_packed_store b x s) = omega arith
expr_some (t_packed_load b v s) = omega arith

place_some : (p : TPlace) → 1 ≤ place_nodes p
place_some (t_variable v t s) = omega arith
place_some (t_element a i t s) = omega arith

pub argument_some : (x : TArgument) → 1 ≤ argument_nodes x
argument_some (t_by_value x) = expr_some x
argument_some (t_by_name b s) = omega arith

-- ---- the parts that go by rates

lift_numbers : (r g : Rate) (t : Elem) (n : ℕ) → HasNumbers (lift_asks r g t n)
lift_numbers Uniform g t n = tt
lift_numbers Varying Uniform t n = tt
lift_numbers Varying Varying t n = tt

taken_numbers : (r : Rate) (x : TExpr) (n : ℕ) (a : Ask) → HasNumbers a → HasNumbers (taken r x n a)
taken_numbers r x n a h = (lift_numbers r (type_of x).rate (type_of x).elem n, h)

pair_numbers : (r : Rate) (x y : TExpr) (n : ℕ) (a b : Ask) → n + 1 < 4294967296 → HasNumbers a → HasNumbers b → HasNumbers (pair_asks r x y n a b)
pair_numbers r x y n a b low h g = (low, (taken_numbers r x n a h, taken_numbers r y (n + 1) b g))

counter_numbers : (r : Rate) → HasNumbers (place_asks r)
counter_numbers Uniform = tt
counter_numbers Varying = tt

start_numbers : (i : TExpr) (n : ℕ) → HasNumbers (start_asks i n)
start_numbers (t_program_index s) n = tt
start_numbers (t_place (t_variable v t s)) n = counter_numbers t.rate
start_numbers (t_place (t_element a i t s)) n = tt
start_numbers x n = tt

run_numbers : (r : Rate) (i : TExpr) (n : ℕ) → HasNumbers (run_asks r i n)
run_numbers Uniform i n = start_numbers i n
run_numbers Varying i n = tt

pub test_numbers : (r : Rate) (n : ℕ) → n < 4294967295 → HasNumbers (test_asks r n)
test_numbers Uniform n low = tt
test_numbers Varying n low = low

sides_numbers : (r : Rate) (n : ℕ) → n + 2 < 4294967295 → HasNumbers (sides_ask r n)
sides_numbers Uniform n low = tt
sides_numbers Varying n low = (omega arith, (omega arith, omega arith))

pub first_near : (r : Rate) (n : ℕ) → first_slot r n ≤ n + 1
first_near Uniform n = omega arith
first_near Varying n = omega arith

pub second_near : (r : Rate) (n : ℕ) → second_slot r n ≤ n + 2
second_near Uniform n = omega arith
second_near Varying n = omega arith

pub beyond_near : (p : TPlace) (n : ℕ) → beyond p n ≤ n + 1
beyond_near (t_variable v t s) n = omega arith
beyond_near (t_element a i t s) n = omega arith

copy_numbers : (r : Rate) (t : Elem) (n : ℕ) → HasNumbers (copy_asks r t n)
copy_numbers Uniform t n = tt
copy_numbers Varying t n = tt

value_numbers : (p : TPlace) (n : ℕ) → HasNumbers (value_asks p n)
value_numbers (t_variable v t s) n = copy_numbers t.rate t.elem n
value_numbers (t_element a i t s) n = tt

work_numbers : (b : Bool) (r : Rate) (t : Elem) (n : ℕ) → HasNumbers (work_asks b r t n)
work_numbers true r t n = tt
work_numbers false r t n = tt

read_numbers : (p : TPlace) (n : ℕ) → HasNumbers (read_asks p n)
read_numbers (t_variable v t s) n = tt
read_numbers (t_element a i t s) n = tt

change_numbers : (e : Elem) (p : TPlace) (n : ℕ) → HasNumbers (change_asks e p n)
change_numbers e p n = (work_numbers (same_elem (place_type p).elem e) (place_type p).rate e n, read_numbers p n)

zero_numbers : (r : Rate) (t : Elem) (v n : ℕ) → HasNumbers (zero_asks r t v n)
zero_numbers Uniform t v n = tt
zero_numbers Varying t v n = (tt, tt)

-- ---- no number is too great

module _ (fs : List TFunction) (vars : List Variable) (few : length fs ≤ 16777216) where
  mutual
    pub expr_numbers : (x : TExpr) (n : ℕ) → FineExpr fs vars x → n + 4 * typed_nodes x ≤ 4294967200 → HasNumbers (expr_asks x n)
    expr_numbers (t_constant v s) n f low = tt
    expr_numbers (t_program_index s) n f low = tt
    expr_numbers (t_place p) n f low = (place_numbers p n f low, value_numbers p n)
    expr_numbers (t_convert e x) n f low = (tt, expr_numbers x n f.0 (omega (arith, low)))
    expr_numbers (t_cast x t s) n f low = taken_numbers t.rate x n (expr_asks x n) (expr_numbers x n f.0 (omega (arith, low)))
    expr_numbers (t_unary o x t s) n f low = (tt, taken_numbers t.rate x n (expr_asks x n) (expr_numbers x n f.0 (omega (arith, low))))
    expr_numbers (t_binary o x y t s) n f low =
        let left = expr_numbers x n f.0 (omega (arith, low)) in
        let right = expr_numbers y (n + 1) f.1 (omega (arith, low)) in
        (tt, pair_numbers t.rate x y n (expr_asks x n) (expr_asks y (n + 1)) (omega (arith, low)) left right)
    expr_numbers (t_compare c x y r s) n f low =
        let left = expr_numbers x n f.0 (omega (arith, low)) in
        let right = expr_numbers y (n + 1) f.1 (omega (arith, low)) in
        (tt, pair_numbers r x y n (expr_asks x n) (expr_asks y (n + 1)) (omega (arith, low)) left right)
    expr_numbers (t_logic g x y r s) n f low =
        let left = expr_numbers x n f.0 (omega (arith, low)) in
        let right = expr_numbers y (n + 1) f.1 (omega (arith, low)) in
        (tt, (test_numbers r n (omega (arith, low)), pair_numbers r x y n (expr_asks x n) (expr_asks y (n + 1)) (omega (arith, low)) left right))
    expr_numbers (t_choose c x y t s) n f low =
        let g = (type_of c).rate in
        let i = first_slot g n in
        let j = second_slot g n in
        let test = expr_numbers c n f.0 (omega (arith, low)) in
        let left = expr_numbers x i f.1 (omega (arith, low, first_near g n)) in
        let right = expr_numbers y j f.2 (omega (arith, low, second_near g n)) in
        let sides = sides_numbers g n (omega (arith, low, expr_some c)) in
        (tt, (test, (taken_numbers t.rate x i (expr_asks x i) left, (taken_numbers t.rate y j (expr_asks y j) right, sides))))
    expr_numbers (t_call c t) n f low = (tt, call_numbers c (Some t) n f low)
    expr_numbers (t_library g e xs t s) n f low = (tt, values_numbers (library_rates g t.rate) e (parts g) xs n f.0 (omega (arith, low)))
    expr_numbers (t_packed_store b x s) n f low =
        (tt, ((tt, base_numbers b n f.0 (omega (arith, low))), (omega (arith, low), taken_numbers Varying x (n + 1) (expr_asks x (n + 1)) (expr_numbers x (n + 1) f.1 (omega (arith, low))))))
    expr_numbers (t_packed_load b v s) n f low = (tt, ((tt, base_numbers b n f.0 (omega (arith, low))), (tt, tt)))

    place_numbers : (p : TPlace) (n : ℕ) → FinePlace fs vars p → n + 4 * place_nodes p ≤ 4294967200 → HasNumbers (target_asks p n)
    place_numbers (t_variable v t s) n f low = tt
    place_numbers (t_element a i t s) n f low = (tt, (run_numbers a.ty.rate i n, (lift_numbers t.rate (type_of i).rate I64 n, (tt, expr_numbers i n f.1 (omega (arith, low))))))

    base_numbers : (b : TBase) (n : ℕ) → FineBase fs vars b → n + 4 * base_nodes b ≤ 4294967200 → HasNumbers (first_asks b n)
    base_numbers (t_whole a s) n f low = tt
    base_numbers (t_from a i s) n f low = (lift_numbers Uniform (type_of i).rate I64 n, (tt, expr_numbers i n f.1 (omega (arith, low))))

    call_numbers : (c : TCall) (o : Option Ty) (n : ℕ) → FineCall fs vars c o → n + 4 * call_nodes c ≤ 4294967200 → HasNumbers (call_asks c n)
    call_numbers (t_called k xs s) o n f low =
        let known = slice_get_within fs k f.0 f.1 in
        (omega (arith, few, known), arguments_numbers (params_of f.0) xs n f.3 (omega (arith, low)))

    arguments_numbers : (vs : List Variable) (xs : TArguments) (n : ℕ) → FineArguments fs vars vs xs → n + 4 * arguments_nodes xs ≤ 4294967200
        → HasNumbers (arguments_asks xs n)
    arguments_numbers [] t_no_arguments n f low = tt
    arguments_numbers [] (t_argument_then x xs) n f low = absurd f
    arguments_numbers (v ∷ vs) t_no_arguments n f low = absurd f
    arguments_numbers (v ∷ vs) (t_argument_then x xs) n f low =
        let some = argument_some x in
        (omega (arith, low, some), (argument_numbers v.holds v.constant x n f.0 (omega (arith, low)), arguments_numbers vs xs (n + 1) f.1 (omega (arith, low, some))))

    argument_numbers : (y : Holds) (c : Bool) (x : TArgument) (n : ℕ) → FineArgument fs vars y c x → n + 4 * argument_nodes x ≤ 4294967200
        → HasNumbers (argument_asks x n)
    argument_numbers (holds.Value t) c (t_by_value x) n f low = taken_numbers Varying x n (expr_asks x n) (expr_numbers x n f.0 low)
    argument_numbers (holds.Given t) c (t_by_value x) n f low = absurd f
    argument_numbers (holds.Local t m) c (t_by_value x) n f low = absurd f
    argument_numbers y c (t_by_name a s) n f low = tt

    pub values_numbers : (rs : List Rate) (e : Elem) (ps : List Part) (xs : TExprs) (n : ℕ) → FineParts fs vars e ps xs → n + 4 * exprs_nodes xs ≤ 4294967200
        → HasNumbers (values_asks rs xs n)
    values_numbers rs e [] t_no_exprs n f low = tt
    values_numbers rs e [] (t_expr_then x xs) n f low = absurd f
    values_numbers rs e (p ∷ ps) t_no_exprs n f low = absurd f
    values_numbers rs e (p ∷ ps) (t_expr_then x xs) n f low =
        let some = expr_some x in
        let first = taken_numbers (next_rate rs) x n (expr_asks x n) (expr_numbers x n f.0 (omega (arith, low))) in
        (omega (arith, low, some), (first, values_numbers (later rs) e ps xs (n + 1) f.2 (omega (arith, low, some))))

  pub operand_numbers : (r : Rate) (x : TExpr) (n : ℕ) → FineExpr fs vars x → n + 4 * typed_nodes x ≤ 4294967200 → HasNumbers (operand_asks r x n)
  operand_numbers r x n f low = taken_numbers r x n (expr_asks x n) (expr_numbers x n f low)

  pub index_numbers : (r : Rate) (x : TExpr) (n : ℕ) → FineExpr fs vars x → n + 4 * typed_nodes x ≤ 4294967200 → HasNumbers (index_asks r x n (expr_asks x n))
  index_numbers r x n f low = (lift_numbers r (type_of x).rate I64 n, (tt, expr_numbers x n f low))

  pub shown_numbers : (rs : List Rate) (xs : List TExpr) (n : ℕ) → All (FineExpr fs vars) xs → n + 4 * exprs_nodes (t_exprs xs) ≤ 4294967200
      → HasNumbers (values_asks rs (t_exprs xs) n)
  shown_numbers rs [] n f low = tt
  shown_numbers rs (x ∷ xs) n f low =
      let some = expr_some x in
      let first = operand_numbers (next_rate rs) x n (f 0 x (omega arith)) (omega (arith, low)) in
      (omega (arith, low, some), (first, shown_numbers (later rs) xs (n + 1) (λ k d lt. f (suc k) d (omega (arith, lt))) (omega (arith, low, some))))

  target_numbers : (p : TPlace) (n : ℕ) → FineTarget fs vars p → n + 4 * place_nodes p ≤ 4294967200 → HasNumbers (target_asks p n)
  target_numbers (t_variable v t s) n f low = tt
  target_numbers (t_element a i t s) n f low = place_numbers (t_element a i t s) n f.0 low

  pub simple_numbers : (x : TSimple) (n : ℕ) → FineSimple fs vars x → n + 4 * simple_nodes x + 8 ≤ 4294967200 → HasNumbers (simple_asks x n)
  simple_numbers (t_value x) n f low = expr_numbers x n f (omega (arith, low))
  simple_numbers (t_run c) n f low = call_numbers c None n f (omega (arith, low))
  simple_numbers (t_assign p x s) n f low =
      let near = beyond_near p n in
      (target_numbers p n f.0 (omega (arith, low)), (omega (arith, low, near), operand_numbers (place_type p).rate x (beyond p n) f.1.0 (omega (arith, low, near))))
  simple_numbers (t_update o e p x s) n f low =
      let near = beyond_near p n in
      let right = operand_numbers (place_type p).rate x (beyond p n) f.1.0 (omega (arith, low, near)) in
      (target_numbers p n f.0 (omega (arith, low)), (omega (arith, low, near), (right, change_numbers e p (beyond p n + 1))))
  simple_numbers (t_step o e p s) n f low =
      let one = lift_numbers (place_type p).rate Uniform e (beyond p n) in
      (target_numbers p n f.0 (omega (arith, low)), (omega (arith, low, beyond_near p n), ((tt, one), change_numbers e p (beyond p n + 1))))

  pub item_numbers : (x : TItem) (n : ℕ) → FineItem fs vars x → n + 4 * item_nodes x ≤ 4294967200 → HasNumbers (item_asks n x)
  item_numbers (t_plain v t s) n f low = zero_numbers t.rate t.elem v n
  item_numbers (t_with_value v t x s) n f low = (tt, operand_numbers t.rate x n f.1.0 (omega (arith, low)))
  item_numbers (t_with_size a s) n f low = tt

-- ---- there are few registers

lift_few : (r g : Rate) (t : Elem) (n : ℕ) → registers_asked (lift_asks r g t n) ≤ 1
lift_few Uniform g t n = omega arith
lift_few Varying Uniform t n = omega arith
lift_few Varying Varying t n = omega arith

counter_few : (r : Rate) → registers_asked (place_asks r) ≤ 1
counter_few Uniform = omega arith
counter_few Varying = omega arith

start_few : (i : TExpr) (n : ℕ) → registers_asked (start_asks i n) ≤ 1
start_few (t_program_index s) n = omega arith
start_few (t_place (t_variable v t s)) n = counter_few t.rate
start_few (t_place (t_element a i t s)) n = omega arith
start_few x n = omega arith

run_few : (r : Rate) (i : TExpr) (n : ℕ) → registers_asked (run_asks r i n) ≤ 1
run_few Uniform i n = start_few i n
run_few Varying i n = omega arith

pub test_none : (r : Rate) (n : ℕ) → registers_asked (test_asks r n) ≡ 0
test_none Uniform n = omega arith
test_none Varying n = omega arith

sides_none : (r : Rate) (n : ℕ) → registers_asked (sides_ask r n) ≡ 0
sides_none Uniform n = omega arith
sides_none Varying n = omega arith

copy_few : (r : Rate) (t : Elem) (n : ℕ) → registers_asked (copy_asks r t n) ≤ 1
copy_few Uniform t n = omega arith
copy_few Varying t n = omega arith

work_few : (b : Bool) (r : Rate) (t : Elem) (n : ℕ) → registers_asked (work_asks b r t n) ≤ 1
work_few true r t n = omega arith
work_few false r t n = omega arith

read_few : (p : TPlace) (n : ℕ) → registers_asked (read_asks p n) ≤ 1
read_few (t_variable v t s) n = omega arith
read_few (t_element a i t s) n = omega arith

zero_few : (r : Rate) (t : Elem) (v n : ℕ) → registers_asked (zero_asks r t v n) ≤ 2
zero_few Uniform t v n = omega arith
zero_few Varying t v n = omega arith

taken_few : (r : Rate) (x : TExpr) (n : ℕ) (a : Ask) → registers_asked (taken r x n a) ≤ 1 + registers_asked a
taken_few r x n a = omega (arith, lift_few r (type_of x).rate (type_of x).elem n)

pair_few : (r : Rate) (x y : TExpr) (n : ℕ) (a b : Ask) → registers_asked (pair_asks r x y n a b) ≤ 2 + (registers_asked a + registers_asked b)
pair_few r x y n a b = omega (arith, taken_few r x n a, taken_few r y (n + 1) b)

mutual
  expr_few : (x : TExpr) (n : ℕ) → registers_asked (expr_asks x n) + 1 ≤ 4 * typed_nodes x
  expr_few (t_constant v s) n = omega arith
  expr_few (t_program_index s) n = omega arith
  expr_few (t_place (t_variable v t s)) n = omega (arith, copy_few t.rate t.elem n)
  expr_few (t_place (t_element a i t s)) n = omega (arith, run_few a.ty.rate i n, lift_few t.rate (type_of i).rate I64 n, expr_few i n)
  expr_few (t_convert e x) n = omega (arith, expr_few x n)
  expr_few (t_cast x t s) n = omega (arith, taken_few t.rate x n (expr_asks x n), expr_few x n)
  expr_few (t_unary o x t s) n = omega (arith, taken_few t.rate x n (expr_asks x n), expr_few x n)
  expr_few (t_binary o x y t s) n = omega (arith, pair_few t.rate x y n (expr_asks x n) (expr_asks y (n + 1)), expr_few x n, expr_few y (n + 1))
  expr_few (t_compare c x y r s) n = omega (arith, pair_few r x y n (expr_asks x n) (expr_asks y (n + 1)), expr_few x n, expr_few y (n + 1))
  expr_few (t_logic g x y r s) n = omega (arith, test_none r n, pair_few r x y n (expr_asks x n) (expr_asks y (n + 1)), expr_few x n, expr_few y (n + 1))
  expr_few (t_choose c x y t s) n =
      let g = (type_of c).rate in
      let i = first_slot g n in
      let j = second_slot g n in
      omega (arith, expr_few c n, taken_few t.rate x i (expr_asks x i), expr_few x i, taken_few t.rate y j (expr_asks y j), expr_few y j, sides_none g n)
  expr_few (t_call c t) n = omega (arith, call_few c n)
  expr_few (t_library g e xs t s) n = omega (arith, values_few (library_rates g t.rate) xs n)
  expr_few (t_packed_store b x s) n = omega (arith, base_few b n, taken_few Varying x (n + 1) (expr_asks x (n + 1)), expr_few x (n + 1))
  expr_few (t_packed_load b v s) n = omega (arith, base_few b n)

  base_few : (b : TBase) (n : ℕ) → registers_asked (first_asks b n) ≤ 4 * base_nodes b
  base_few (t_whole a s) n = omega arith
  base_few (t_from a i s) n = omega (arith, lift_few Uniform (type_of i).rate I64 n, expr_few i n)

  call_few : (c : TCall) (n : ℕ) → registers_asked (call_asks c n) + 4 ≤ 4 * call_nodes c
  call_few (t_called k xs s) n = omega (arith, arguments_few xs n)

  arguments_few : (xs : TArguments) (n : ℕ) → registers_asked (arguments_asks xs n) ≤ 4 * arguments_nodes xs
  arguments_few t_no_arguments n = omega arith
  arguments_few (t_argument_then x xs) n = omega (arith, argument_few x n, arguments_few xs (n + 1))

  argument_few : (x : TArgument) (n : ℕ) → registers_asked (argument_asks x n) ≤ 4 * argument_nodes x
  argument_few (t_by_value x) n = omega (arith, taken_few Varying x n (expr_asks x n), expr_few x n)
  argument_few (t_by_name a s) n = omega arith

  values_few : (rs : List Rate) (xs : TExprs) (n : ℕ) → registers_asked (values_asks rs xs n) ≤ 4 * exprs_nodes xs
  values_few rs t_no_exprs n = omega arith
  values_few rs (t_expr_then x xs) n = omega (arith, taken_few (next_rate rs) x n (expr_asks x n), expr_few x n, values_few (later rs) xs (n + 1))

operand_few : (r : Rate) (x : TExpr) (n : ℕ) → registers_asked (operand_asks r x n) ≤ 4 * typed_nodes x
operand_few r x n = omega (arith, lift_few r (type_of x).rate (type_of x).elem n, expr_few x n)

index_few : (r : Rate) (x : TExpr) (n : ℕ) → registers_asked (index_asks r x n (expr_asks x n)) ≤ 4 * typed_nodes x + 1
index_few r x n = omega (arith, lift_few r (type_of x).rate I64 n, expr_few x n)

-- an element's index, and that of a run
element_few : (g r : Rate) (i : TExpr) (n : ℕ) → registers_asked (element_asks g r i n (expr_asks i n)) ≤ 4 * typed_nodes i + 2
element_few g r i n = omega (arith, run_few g i n, index_few r i n)

target_few : (p : TPlace) (n : ℕ) → registers_asked (target_asks p n) ≤ 4 * place_nodes p
target_few (t_variable v t s) n = omega arith
target_few (t_element a i t s) n = omega (arith, element_few a.ty.rate t.rate i n)

change_few : (e : Elem) (p : TPlace) (n : ℕ) → registers_asked (change_asks e p n) ≤ 2
change_few e p n = omega (arith, work_few (same_elem (place_type p).elem e) (place_type p).rate e n, read_few p n)

pub expr_registers : (x : TExpr) (n : ℕ) → registers_asked (expr_asks x n) ≤ 8 * typed_nodes x
expr_registers x n = omega (arith, expr_few x n)

pub operand_registers : (r : Rate) (x : TExpr) (n : ℕ) → registers_asked (operand_asks r x n) ≤ 8 * typed_nodes x
operand_registers r x n = omega (arith, operand_few r x n)

pub index_registers : (r : Rate) (x : TExpr) (n : ℕ) → registers_asked (index_asks r x n (expr_asks x n)) ≤ 8 * typed_nodes x
index_registers r x n = omega (arith, index_few r x n, expr_some x)

pub values_registers : (rs : List Rate) (xs : TExprs) (n : ℕ) → registers_asked (values_asks rs xs n) ≤ 8 * exprs_nodes xs
values_registers rs xs n = omega (arith, values_few rs xs n)

pub simple_registers : (x : TSimple) (n : ℕ) → registers_asked (simple_asks x n) ≤ 8 * simple_nodes x
simple_registers (t_value x) n = expr_registers x n
simple_registers (t_run c) n = omega (arith, call_few c n)
simple_registers (t_assign p x s) n = omega (arith, target_few p n, operand_few (place_type p).rate x (beyond p n))
simple_registers (t_update o e p x s) n =
    omega (arith, target_few p n, operand_few (place_type p).rate x (beyond p n), change_few e p (beyond p n + 1), place_some p)
simple_registers (t_step o e p s) n =
    omega (arith, target_few p n, lift_few (place_type p).rate Uniform e (beyond p n), change_few e p (beyond p n + 1), place_some p)

pub item_registers : (x : TItem) (n : ℕ) → registers_asked (item_asks n x) ≤ 8 * item_nodes x
item_registers (t_plain v t s) n = omega (arith, zero_few t.rate t.elem v n)
item_registers (t_with_value v t x s) n = omega (arith, operand_few t.rate x n)
item_registers (t_with_size a s) n = omega arith
