-- What code asks for is the function's own, where names and types accept its trees.
use Rattle.std.proofs.Common.{ℕ, suc, ◌+◌, List, [], ◌∷◌, Option, Some, None, Bool, true, false, arith}
use Rattle.std.specs.List.{All as Each}
use Rattle.isp_base.specs.Ranks.{same_elem}
use Rattle.isp_base.specs.declared.types.Elem.{Elem}
use Rattle.isp_base.specs.declared.types.Elem.TheVariants.{I64}
use Rattle.isp_base.specs.declared.types.Rate.{Rate}
use Rattle.isp_base.specs.declared.types.Rate.TheVariants.{Uniform, Varying}
use Rattle.isp_base.specs.declared.types.Ty.{Ty}
use Rattle.isp_typed.specs.Fine.{HoldsArray, HoldsValue, FineExpr, FinePlace, FineBase, FineCall, FineArguments, FineArgument, FineParts, params_of, FineTarget, FineSimple, FineItem}
use Rattle.isp_typed.specs.Typed.{TExpr, t_constant, t_program_index, t_place, t_convert, t_cast, t_unary, t_binary, t_compare, t_logic, t_choose, t_call, t_library, t_packed_store, t_packed_load, TPlace}
use Rattle.isp_typed.specs.Typed.{t_variable, t_element, TBase, t_whole, t_from, TArgument, t_by_value, t_by_name, TCall, t_called, TArguments, t_no_arguments, t_argument_then, TExprs, t_no_exprs, t_expr_then}
use Rattle.isp_typed.specs.Typed.{TItem, t_plain, t_with_value, t_with_size, TSimple, t_value, t_run, t_assign, t_update, t_step, TFunction, place_type, ty_of, type_of}
use Rattle.isp_typed.specs.declared.variable.Holds.{Holds}
use Rattle.isp_typed.specs.declared.variable.Holds.TheVariants as holds
use Rattle.isp_typed.specs.declared.variable.Variable.{Variable}
use Rattle.isp_lower_code.specs.Asks.{Ask, Nothing, Both, Register, ArrayOf, LocalOf, MaskOf, Number, Loads, All, first_slot, second_slot, beyond, lift_asks, test_asks}
use Rattle.isp_lower_code.specs.Asks.{sides_ask, read_asks, copy_asks, value_asks, work_asks, zero_asks, expr_asks, target_asks, base_asks, values_asks, call_asks}
use Rattle.isp_lower_code.specs.Asks.{arguments_asks, argument_asks, change_asks, simple_asks, item_asks, items_asks, place_asks, run_asks, start_asks}
use Rattle.isp_typed.specs.Library.{parts}
use Rattle.isp_typed.specs.declared.library.Part.{Part}
use Rattle.isp_lower_code.specs.Callees.{next_rate, later}
use Rattle.isp_lower_code.specs.Library.{library_rates}
use Rattle.isp_lower_code.specs.Own.{HoldsLocal, IsOwn}
use Rattle.isp_lower_code.specs.Rows.{Name}
use Rattle.isp_lower_code.specs.Tables.{AnyArray}

module _ (vars : List Variable) (answer : Option Ty) where
  -- the arrays that are asked for are variables
  pub all_held : (H : Rate → Name → Elem → Type 0) (M W : ℕ → Type 0) (x : Ask) → IsOwn vars answer x → All H AnyArray AnyArray M W x → All H (HoldsArray vars) (HoldsLocal vars) M W x
  all_held H M W Nothing own f = tt
  all_held H M W (Both x y) own f = (all_held H M W x own.0 f.0, all_held H M W y own.1 f.1)
  all_held H M W (Register r x t) own f = f
  all_held H M W (ArrayOf b) own f = own
  all_held H M W (LocalOf b) own f = own
  all_held H M W (MaskOf k) own f = f
  all_held H M W (Number k) own f = f
  all_held H M W (Loads v) own f = f

  pub lift_own : (r given : Rate) (t : Elem) (n : ℕ) → IsOwn vars answer (lift_asks r given t n)
  lift_own Uniform given t n = tt
  lift_own Varying Uniform t n = tt
  lift_own Varying Varying t n = tt

  pub test_own : (r : Rate) (n : ℕ) → IsOwn vars answer (test_asks r n)
  test_own Uniform n = tt
  test_own Varying n = tt

  sides_own : (r : Rate) (n : ℕ) → IsOwn vars answer (sides_ask r n)
  sides_own Uniform n = tt
  sides_own Varying n = (tt, (tt, tt))

  read_own : (z : TPlace) (n : ℕ) → IsOwn vars answer (read_asks z n)
  read_own (t_variable v t sp) n = tt
  read_own (t_element b i t sp) n = tt

  copy_own : (r : Rate) (t : Elem) (n : ℕ) → IsOwn vars answer (copy_asks r t n)
  copy_own Uniform t n = tt
  copy_own Varying t n = tt

  value_own : (z : TPlace) (n : ℕ) → IsOwn vars answer (value_asks z n)
  value_own (t_variable v t sp) n = copy_own t.rate t.elem n
  value_own (t_element b i t sp) n = tt

  work_own : (b : Bool) (r : Rate) (t : Elem) (i : ℕ) → IsOwn vars answer (work_asks b r t i)
  work_own true r t i = tt
  work_own false r t i = tt

  place_register_own : (r : Rate) → IsOwn vars answer (place_asks r)
  place_register_own Uniform = tt
  place_register_own Varying = tt

  start_own : (i : TExpr) (n : ℕ) → IsOwn vars answer (start_asks i n)
  start_own (t_constant v sp) n = tt
  start_own (t_program_index sp) n = tt
  start_own (t_place (t_variable v t sp)) n = place_register_own t.rate
  start_own (t_place (t_element b i t sp)) n = tt
  start_own (t_convert e x) n = tt
  start_own (t_cast x t sp) n = tt
  start_own (t_unary o x t sp) n = tt
  start_own (t_binary o x y t sp) n = tt
  start_own (t_compare c x y r sp) n = tt
  start_own (t_logic g x y r sp) n = tt
  start_own (t_choose c x y t sp) n = tt
  start_own (t_call c t) n = tt
  start_own (t_library f e xs t sp) n = tt
  start_own (t_packed_store b x sp) n = tt
  start_own (t_packed_load b v sp) n = tt

  run_own : (r : Rate) (i : TExpr) (n : ℕ) → IsOwn vars answer (run_asks r i n)
  run_own Uniform i n = start_own i n
  run_own Varying i n = tt

  change_own : (t : Elem) (z : TPlace) (i : ℕ) → IsOwn vars answer (change_asks t z i)
  change_own t z i = (work_own (same_elem (place_type z).elem t) (place_type z).rate t i, read_own z i)

  zero_own : (r : Rate) (t : Elem) (v n : ℕ) → HoldsValue vars v (ty_of r t) → IsOwn vars answer (zero_asks r t v n)
  zero_own Uniform t v n f = f
  zero_own Varying t v n f = (tt, f)

  module _ (fs : List TFunction) where
    mutual
      pub expr_own : (x : TExpr) (n : ℕ) → FineExpr fs vars x → IsOwn vars answer (expr_asks x n)
      expr_own (t_constant v sp) n f = tt
      expr_own (t_program_index sp) n f = tt
      expr_own (t_place q) n f = (place_own q n f, value_own q n)
      expr_own (t_convert e x) n f = (tt, expr_own x n f.0)
      expr_own (t_cast x t sp) n f = (lift_own t.rate (type_of x).rate (type_of x).elem n, expr_own x n f.0)
      expr_own (t_unary o x t sp) n f = (tt, (lift_own t.rate (type_of x).rate (type_of x).elem n, expr_own x n f.0))
      expr_own (t_binary o x y t sp) n f =
          (tt, (tt, ((lift_own t.rate (type_of x).rate (type_of x).elem n, expr_own x n f.0), (lift_own t.rate (type_of y).rate (type_of y).elem (n + 1), expr_own y (n + 1) f.1))))
      expr_own (t_compare c x y r sp) n f =
          (tt, (tt, ((lift_own r (type_of x).rate (type_of x).elem n, expr_own x n f.0), (lift_own r (type_of y).rate (type_of y).elem (n + 1), expr_own y (n + 1) f.1))))
      expr_own (t_logic g x y r sp) n f =
          (tt, (test_own r n, (tt, ((lift_own r (type_of x).rate (type_of x).elem n, expr_own x n f.0), (lift_own r (type_of y).rate (type_of y).elem (n + 1), expr_own y (n + 1) f.1)))))
      expr_own (t_choose c x y t sp) n f =
          let i = first_slot (type_of c).rate n in
          let j = second_slot (type_of c).rate n in
          (tt, (expr_own c n f.0, ((lift_own t.rate (type_of x).rate (type_of x).elem i, expr_own x i f.1), ((lift_own t.rate (type_of y).rate (type_of y).elem j, expr_own y j f.2), sides_own (type_of c).rate n))))
      expr_own (t_call c t) n f = (tt, call_own c (Some t) n f)
      expr_own (t_library g e xs t sp) n f = (tt, values_own e (parts g) (library_rates g t.rate) xs n f.0)
      expr_own (t_packed_store b x sp) n f = (tt, (base_own b n f.0, (tt, (lift_own Varying (type_of x).rate (type_of x).elem (n + 1), expr_own x (n + 1) f.1))))
      expr_own (t_packed_load b v sp) n f = (tt, (base_own b n f.0, (record { constant = false; is = f.1 }, tt)))

      place_own : (z : TPlace) (n : ℕ) → FinePlace fs vars z → IsOwn vars answer (target_asks z n)
      place_own (t_variable v t sp) n f = f
      place_own (t_element b i t sp) n f = (f.0, (run_own b.ty.rate i n, (lift_own t.rate (type_of i).rate I64 n, (tt, expr_own i n f.1))))

      base_own : (b : TBase) (n : ℕ) → FineBase fs vars b → IsOwn vars answer (base_asks b n)
      base_own (t_whole b sp) n f = (f.0, tt)
      base_own (t_from b i sp) n f = (f.0, (lift_own Uniform (type_of i).rate I64 n, (tt, expr_own i n f.1)))

      values_own : (e : Elem) (ps : List Part) (rs : List Rate) (xs : TExprs) (n : ℕ) → FineParts fs vars e ps xs → IsOwn vars answer (values_asks rs xs n)
      values_own e [] rs t_no_exprs n f = tt
      values_own e [] rs (t_expr_then x xs) n f = absurd f
      values_own e (p ∷ ps) rs t_no_exprs n f = absurd f
      values_own e (p ∷ ps) rs (t_expr_then x xs) n f =
          (tt, ((lift_own (next_rate rs) (type_of x).rate (type_of x).elem n, expr_own x n f.0), values_own e ps (later rs) xs (n + 1) f.2))

      pub call_own : (c : TCall) (gives : Option Ty) (n : ℕ) → FineCall fs vars c gives → IsOwn vars answer (call_asks c n)
      call_own (t_called g xs sp) gives n f = (tt, arguments_own (params_of f.0) xs n f.3)

      arguments_own : (vs : List Variable) (xs : TArguments) (n : ℕ) → FineArguments fs vars vs xs → IsOwn vars answer (arguments_asks xs n)
      arguments_own [] t_no_arguments n f = tt
      arguments_own [] (t_argument_then x xs) n f = absurd f
      arguments_own (v ∷ vs) t_no_arguments n f = absurd f
      arguments_own (v ∷ vs) (t_argument_then x xs) n f = (tt, (argument_own v.holds v.constant x n f.0, arguments_own vs xs (n + 1) f.1))

      argument_own : (y : Holds) (k : Bool) (x : TArgument) (n : ℕ) → FineArgument fs vars y k x → IsOwn vars answer (argument_asks x n)
      argument_own (holds.Value t) k (t_by_value x) n f = (lift_own Varying (type_of x).rate (type_of x).elem n, expr_own x n f.0)
      argument_own (holds.Value t) k (t_by_name b sp) n f = absurd f
      argument_own (holds.Given e) k (t_by_value x) n f = absurd f
      argument_own (holds.Given e) k (t_by_name b sp) n f = f.0
      argument_own (holds.Local t m) k (t_by_value x) n f = absurd f
      argument_own (holds.Local t m) k (t_by_name b sp) n f = absurd f

    pub operand_own : (r : Rate) (x : TExpr) (n : ℕ) → FineExpr fs vars x → IsOwn vars answer (Both (lift_asks r (type_of x).rate (type_of x).elem n) (expr_asks x n))
    operand_own r x n f = (lift_own r (type_of x).rate (type_of x).elem n, expr_own x n f)

    target_own : (z : TPlace) (n : ℕ) → FineTarget fs vars z → IsOwn vars answer (target_asks z n)
    target_own (t_variable v t sp) n f = record { constant = false; is = f }
    target_own (t_element b i t sp) n f = place_own (t_element b i t sp) n f.0

    pub simple_own : (x : TSimple) (n : ℕ) → FineSimple fs vars x → IsOwn vars answer (simple_asks x n)
    simple_own (t_value x) n f = expr_own x n f
    simple_own (t_run c) n f = call_own c None n f
    simple_own (t_assign z x sp) n f = (target_own z n f.0, (tt, operand_own (place_type z).rate x (beyond z n) f.1.0))
    simple_own (t_update o t z x sp) n f =
        (target_own z n f.0, (tt, (operand_own (place_type z).rate x (beyond z n) f.1.0, change_own t z (beyond z n + 1))))
    simple_own (t_step o t z sp) n f =
        (target_own z n f.0, (tt, ((tt, lift_own (place_type z).rate Uniform t (beyond z n)), change_own t z (beyond z n + 1))))

    pub item_own : (x : TItem) (n : ℕ) → FineItem fs vars x → IsOwn vars answer (item_asks n x)
    item_own (t_plain v t sp) n f = zero_own t.rate t.elem v n f
    item_own (t_with_value v t x sp) n f = (f.0, operand_own t.rate x n f.1.0)
    item_own (t_with_size b sp) n f = (f.0, f.1)

    pub items_own : (xs : List TItem) (n : ℕ) → Each (FineItem fs vars) xs → IsOwn vars answer (items_asks n xs)
    items_own [] n f = tt
    items_own (x ∷ xs) n f = (item_own x n (f 0 x (omega arith)), items_own xs n (λ k d lt. f (suc k) d (omega arith)))
