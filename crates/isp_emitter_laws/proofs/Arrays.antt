-- The arrays that code asks for are variables, where names and types accept its tree.
use Rattle.std.proofs.Common.{ℕ, ◌+◌, List, [], ◌∷◌, Option, Some, None, Bool, true, false}
use Rattle.isp_base.specs.Ranks.{same_elem}
use Rattle.isp_base.specs.declared.types.Elem.{Elem}
use Rattle.isp_base.specs.declared.types.Elem.TheVariants.{I64}
use Rattle.isp_base.specs.declared.types.Rate.{Rate}
use Rattle.isp_base.specs.declared.types.Rate.TheVariants.{Uniform, Varying}
use Rattle.isp_base.specs.declared.types.Ty.{Ty}
use Rattle.isp_typed.specs.Fine.{HoldsArray, FineExpr, FinePlace, FineBase, FineCall, FineArguments, FineArgument, FineParts, params_of, FineTarget, FineSimple}
use Rattle.isp_typed.specs.Library.{parts}
use Rattle.isp_typed.specs.Typed.{TExpr, t_constant, t_program_index, t_place, t_convert, t_cast, t_unary, t_binary, t_compare, t_logic, t_choose, t_call, t_library, t_packed_store, t_packed_load}
use Rattle.isp_typed.specs.Typed.{TPlace, t_variable, t_element, TBase, t_whole, t_from, TArgument, t_by_value, t_by_name, TCall, t_called, TArguments, t_no_arguments, t_argument_then, TExprs}
use Rattle.isp_typed.specs.Typed.{t_no_exprs, t_expr_then, TSimple, t_value, t_run, t_assign, t_update, t_step, TFunction, place_type, type_of}
use Rattle.isp_typed.specs.declared.library.Part.{Part}
use Rattle.isp_typed.specs.declared.variable.Holds.{Holds}
use Rattle.isp_typed.specs.declared.variable.Holds.TheVariants as holds
use Rattle.isp_typed.specs.declared.variable.Variable.{Variable}
use Rattle.isp_lower_code.specs.Asks.{Ask, Nothing, Both, Register, ArrayOf, LocalOf, MaskOf, Number, Loads, first_slot, second_slot, beyond, lift_asks, test_asks, sides_ask, read_asks, copy_asks, value_asks, work_asks, taken}
use Rattle.isp_lower_code.specs.Asks.{expr_asks, target_asks, base_asks, values_asks, call_asks, arguments_asks, argument_asks, change_asks, simple_asks, place_asks, run_asks, start_asks}
use Rattle.isp_lower_code.specs.Callees.{next_rate, later}
use Rattle.isp_lower_code.specs.Library.{library_rates}

module _ (vars : List Variable) where
  -- each array is a variable
  abbrev pub AreHeld : Ask → Type 0
  AreHeld Nothing = Unit {0}
  AreHeld (Both x y) = AreHeld x × AreHeld y
  AreHeld (Register r x t) = Unit {0}
  AreHeld (ArrayOf b) = HoldsArray vars b
  AreHeld (LocalOf b) = HoldsArray vars b
  AreHeld (MaskOf k) = Unit {0}
  AreHeld (Number k) = Unit {0}
  AreHeld (Loads v) = Unit {0}

  lift_held : (r given : Rate) (t : Elem) (n : ℕ) → AreHeld (lift_asks r given t n)
  lift_held Uniform given t n = tt
  lift_held Varying Uniform t n = tt
  lift_held Varying Varying t n = tt

  test_held : (r : Rate) (n : ℕ) → AreHeld (test_asks r n)
  test_held Uniform n = tt
  test_held Varying n = tt

  sides_held : (r : Rate) (n : ℕ) → AreHeld (sides_ask r n)
  sides_held Uniform n = tt
  sides_held Varying n = (tt, (tt, tt))

  read_held : (z : TPlace) (n : ℕ) → AreHeld (read_asks z n)
  read_held (t_variable v t sp) n = tt
  read_held (t_element b i t sp) n = tt

  copy_held : (r : Rate) (t : Elem) (n : ℕ) → AreHeld (copy_asks r t n)
  copy_held Uniform t n = tt
  copy_held Varying t n = tt

  value_held : (z : TPlace) (n : ℕ) → AreHeld (value_asks z n)
  value_held (t_variable v t sp) n = copy_held t.rate t.elem n
  value_held (t_element b i t sp) n = tt

  work_held : (b : Bool) (r : Rate) (t : Elem) (i : ℕ) → AreHeld (work_asks b r t i)
  work_held true r t i = tt
  work_held false r t i = tt

  counter_held : (r : Rate) → AreHeld (place_asks r)
  counter_held Uniform = tt
  counter_held Varying = tt

  start_held : (i : TExpr) (n : ℕ) → AreHeld (start_asks i n)
  start_held (t_constant v sp) n = tt
  start_held (t_program_index sp) n = tt
  start_held (t_place (t_variable v t sp)) n = counter_held t.rate
  start_held (t_place (t_element b i t sp)) n = tt
  start_held (t_convert e x) n = tt
  start_held (t_cast x t sp) n = tt
  start_held (t_unary o x t sp) n = tt
  start_held (t_binary o x y t sp) n = tt
  start_held (t_compare c x y r sp) n = tt
  start_held (t_logic g x y r sp) n = tt
  start_held (t_choose c x y t sp) n = tt
  start_held (t_call c t) n = tt
  start_held (t_library f e xs t sp) n = tt
  start_held (t_packed_store b x sp) n = tt
  start_held (t_packed_load b v sp) n = tt

  run_held : (r : Rate) (i : TExpr) (n : ℕ) → AreHeld (run_asks r i n)
  run_held Uniform i n = start_held i n
  run_held Varying i n = tt

  change_held : (t : Elem) (z : TPlace) (i : ℕ) → AreHeld (change_asks t z i)
  change_held t z i = (work_held (same_elem (place_type z).elem t) (place_type z).rate t i, read_held z i)

  -- at a rate
  taken_held : (r : Rate) (x : TExpr) (n : ℕ) (a : Ask) → AreHeld a → AreHeld (taken r x n a)
  taken_held r x n a f = (lift_held r (type_of x).rate (type_of x).elem n, f)

  module _ (fs : List TFunction) where
    mutual
      pub expr_held : (x : TExpr) (n : ℕ) → FineExpr fs vars x → AreHeld (expr_asks x n)
      expr_held (t_constant v sp) n f = tt
      expr_held (t_program_index sp) n f = tt
      expr_held (t_place q) n f = (place_held q n f, value_held q n)
      expr_held (t_convert e x) n f = (tt, expr_held x n f.0)
      expr_held (t_cast x t sp) n f = taken_held t.rate x n (expr_asks x n) (expr_held x n f.0)
      expr_held (t_unary o x t sp) n f = (tt, taken_held t.rate x n (expr_asks x n) (expr_held x n f.0))
      expr_held (t_binary o x y t sp) n f =
          (tt, (tt, (taken_held t.rate x n (expr_asks x n) (expr_held x n f.0), taken_held t.rate y (n + 1) (expr_asks y (n + 1)) (expr_held y (n + 1) f.1))))
      expr_held (t_compare c x y r sp) n f =
          (tt, (tt, (taken_held r x n (expr_asks x n) (expr_held x n f.0), taken_held r y (n + 1) (expr_asks y (n + 1)) (expr_held y (n + 1) f.1))))
      expr_held (t_logic g x y r sp) n f =
          (tt, (test_held r n, (tt, (taken_held r x n (expr_asks x n) (expr_held x n f.0), taken_held r y (n + 1) (expr_asks y (n + 1)) (expr_held y (n + 1) f.1)))))
      expr_held (t_choose c x y t sp) n f =
          let i = first_slot (type_of c).rate n in
          let j = second_slot (type_of c).rate n in
          (tt, (expr_held c n f.0, (taken_held t.rate x i (expr_asks x i) (expr_held x i f.1), (taken_held t.rate y j (expr_asks y j) (expr_held y j f.2), sides_held (type_of c).rate n))))
      expr_held (t_call c t) n f = (tt, call_held c (Some t) n f)
      expr_held (t_library g e xs t sp) n f = (tt, values_held e (parts g) (library_rates g t.rate) xs n f.0)
      expr_held (t_packed_store b x sp) n f =
          (tt, (base_held b n f.0, (tt, taken_held Varying x (n + 1) (expr_asks x (n + 1)) (expr_held x (n + 1) f.1))))
      expr_held (t_packed_load b v sp) n f = (tt, (base_held b n f.0, (tt, tt)))

      place_held : (z : TPlace) (n : ℕ) → FinePlace fs vars z → AreHeld (target_asks z n)
      place_held (t_variable v t sp) n f = tt
      place_held (t_element b i t sp) n f = (f.0, (run_held b.ty.rate i n, (lift_held t.rate (type_of i).rate I64 n, (tt, expr_held i n f.1))))

      base_held : (b : TBase) (n : ℕ) → FineBase fs vars b → AreHeld (base_asks b n)
      base_held (t_whole b sp) n f = (f.0, tt)
      base_held (t_from b i sp) n f = (f.0, (lift_held Uniform (type_of i).rate I64 n, (tt, expr_held i n f.1)))

      values_held : (e : Elem) (ps : List Part) (rs : List Rate) (xs : TExprs) (n : ℕ) → FineParts fs vars e ps xs → AreHeld (values_asks rs xs n)
      values_held e [] rs t_no_exprs n f = tt
      values_held e [] rs (t_expr_then x xs) n f = absurd f
      values_held e (p ∷ ps) rs t_no_exprs n f = absurd f
      values_held e (p ∷ ps) rs (t_expr_then x xs) n f =
          (tt, (taken_held (next_rate rs) x n (expr_asks x n) (expr_held x n f.0), values_held e ps (later rs) xs (n + 1) f.2))

      call_held : (c : TCall) (gives : Option Ty) (n : ℕ) → FineCall fs vars c gives → AreHeld (call_asks c n)
      call_held (t_called g xs sp) gives n f = (tt, arguments_held (params_of f.0) xs n f.3)

      arguments_held : (vs : List Variable) (xs : TArguments) (n : ℕ) → FineArguments fs vars vs xs → AreHeld (arguments_asks xs n)
      arguments_held [] t_no_arguments n f = tt
      arguments_held [] (t_argument_then x xs) n f = absurd f
      arguments_held (v ∷ vs) t_no_arguments n f = absurd f
      arguments_held (v ∷ vs) (t_argument_then x xs) n f = (tt, (argument_held v.holds v.constant x n f.0, arguments_held vs xs (n + 1) f.1))

      argument_held : (y : Holds) (k : Bool) (x : TArgument) (n : ℕ) → FineArgument fs vars y k x → AreHeld (argument_asks x n)
      argument_held (holds.Value t) k (t_by_value x) n f = taken_held Varying x n (expr_asks x n) (expr_held x n f.0)
      argument_held (holds.Value t) k (t_by_name b sp) n f = absurd f
      argument_held (holds.Given e) k (t_by_value x) n f = absurd f
      argument_held (holds.Given e) k (t_by_name b sp) n f = f.0
      argument_held (holds.Local t m) k (t_by_value x) n f = absurd f
      argument_held (holds.Local t m) k (t_by_name b sp) n f = absurd f

    target_held : (z : TPlace) (n : ℕ) → FineTarget fs vars z → AreHeld (target_asks z n)
    target_held (t_variable v t sp) n f = tt
    target_held (t_element b i t sp) n f = place_held (t_element b i t sp) n f.0

    pub simple_held : (x : TSimple) (n : ℕ) → FineSimple fs vars x → AreHeld (simple_asks x n)
    simple_held (t_value x) n f = expr_held x n f
    simple_held (t_run c) n f = call_held c None n f
    simple_held (t_assign z x sp) n f =
        (target_held z n f.0, (tt, taken_held (place_type z).rate x (beyond z n) (expr_asks x (beyond z n)) (expr_held x (beyond z n) f.1.0)))
    simple_held (t_update o t z x sp) n f =
        (target_held z n f.0, (tt, (taken_held (place_type z).rate x (beyond z n) (expr_asks x (beyond z n)) (expr_held x (beyond z n) f.1.0), change_held t z (beyond z n + 1))))
    simple_held (t_step o t z sp) n f =
        (target_held z n f.0, (tt, ((tt, lift_held (place_type z).rate Uniform t (beyond z n)), change_held t z (beyond z n + 1))))
