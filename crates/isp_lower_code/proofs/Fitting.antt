-- What trees and what tables promise, together.
use Rattle.std.proofs.Common.{ℕ, suc, ◌+◌, List, [], ◌∷◌, Option, Some, None, Bool, true, false, refl, subst, ◌≡◌, sym, ap, ◌∙◌, arith}
use Rattle.std.specs.List.{All}
use Rattle.std.proofs.lemmas.Option.{same_Some}
use Rattle.isp_base.specs.Ranks.{same_elem}
use Rattle.isp_base.specs.declared.types.Elem.{Elem}
use Rattle.isp_base.specs.declared.types.Elem.TheVariants.{Bool as Truth}
use Rattle.isp_base.specs.declared.types.Rate.{Rate}
use Rattle.isp_base.specs.declared.types.Rate.TheVariants.{Uniform, Varying}
use Rattle.isp_typed.specs.Typed.{TExpr, t_constant, t_program_index, t_place, t_convert, t_cast, t_unary, t_binary, t_compare, t_logic, t_choose, t_call, t_library, t_packed_store, t_packed_load, TPlace}
use Rattle.isp_typed.specs.Typed.{t_variable, t_element, TBase, t_whole, t_from, TArgument, t_by_value, t_by_name, TCall, t_called, TArguments, t_no_arguments, t_argument_then, TExprs, t_no_exprs, t_expr_then}
use Rattle.isp_typed.specs.Typed.{TItem, t_plain, t_with_value, t_with_size, TSimple, t_value, t_run, t_assign, t_update, t_step, place_type, type_of}
use Rattle.isp_typed.specs.Fine.{params_of, HoldsOpen, FineArgument, FineArguments, FineBase, FineCall, FineExpr, FineItem, FineParts, FinePlace, FineSimple, FineTarget}
use Rattle.isp_typed.specs.Library.{parts}
use Rattle.isp_typed.specs.declared.library.Part.{Part}
use Rattle.isp_typed.specs.declared.variable.Holds.{Holds}
use Rattle.isp_typed.specs.declared.variable.Holds.TheVariants as holds
use Rattle.isp_typed.specs.declared.variable.Variable.{Variable as Declared}
use Rattle.isp_base.specs.declared.types.Ty.{Ty}
use Rattle.isp_lower_code.specs.Setting.{Setting, IsSettled, IsOther, OtherAt, is_constant}
use Rattle.isp_lower_code.specs.Own.{IsOwn}
use Rattle.isp_lower_code.specs.Rows.{Variable, Result, Spare, Place, Fresh, Kept}
use Rattle.isp_lower_code.specs.Callees.{next_rate, later}
use Rattle.isp_lower_code.specs.Library.{library_rates}
use Rattle.isp_lower_code.specs.Asks.{Ask, Nothing, Both, Register, ArrayOf, LocalOf, MaskOf, Number, Loads, lift_asks, operand_asks, values_asks, read_asks, copy_asks, value_asks, base_asks, work_asks, zero_asks, beyond, first_slot, second_slot, expr_asks}
use Rattle.isp_lower_code.specs.Asks.{target_asks, call_asks, arguments_asks, argument_asks, simple_asks, item_asks, items_asks, run_asks, is_lane, start_asks}
use Rattle.isp_lower_code.proofs.Parts.{ExprParts, ValuesParts, CallParts, ArgumentsParts, ArgumentParts, ItemParts, ItemsParts, LiftFits, OperandFits, PlaceParts, BaseParts}
use Rattle.isp_lower_code.specs.Layout.{is_fixed}
use Rattle.isp_lower_code.proofs.Base.{IsRead, is_read}
use Rattle.isp_lower_code.proofs.Fixed.{FixedConstant, fixed_constant}
use Rattle.isp_lower_code.proofs.Own.{expr_own, items_own, simple_own}
use Rattle.isp_lower_code.proofs.Parts.{Owned, PlaceTyped, CopyHas, IsNamed, ReadFits, SimpleParts, WorkFits, ZeroFits, RunParts, LaneParts, TargetOther}
use Rattle.isp_lower_code.proofs.Trees.{ExprTree, ValuesTree, CallTree, ArgumentsTree, ArgumentTree, ItemTree, ItemsTree, OperandTree, PlaceTree, BaseTree, SimpleTree}
use Rattle.isp_lower_code.specs.Fits.{InTable, ExprFits, SimpleFits, ItemsFit, ItemOther, ItemsOther}
use Rattle.isp_lower_code.proofs.Rated.{expr_tree, simple_tree, items_tree}

module _ (w : Setting) where
  -- ---- single registers

  lift_fits : (given r : Rate) (t : Elem) (n : ℕ) → Owned w (lift_asks r given t n) → LiftFits w given r t n
  lift_fits Uniform Uniform t n h = tt
  lift_fits Uniform Varying t n h = h.0
  lift_fits Varying Uniform t n h = tt
  lift_fits Varying Varying t n h = tt

  -- what may be made a varying one may be left as it is
  lift_any : (given r : Rate) (t : Elem) (n : ℕ) → Owned w (lift_asks Varying given t n) → LiftFits w given r t n
  lift_any Uniform Uniform t n h = tt
  lift_any Uniform Varying t n h = h.0
  lift_any Varying Uniform t n h = tt
  lift_any Varying Varying t n h = tt

  read_fits : (z : TPlace) (n : ℕ) → Owned w (read_asks z n) → ReadFits w z n
  read_fits (t_variable v t sp) n h = tt
  read_fits (t_element b i t sp) n h = h.0

  copy_fits : (r : Rate) (t : Elem) (n : ℕ) → Owned w (copy_asks r t n) → CopyHas (IsNamed w) r t n
  copy_fits Uniform t n h = tt
  copy_fits Varying t n h = h.0

  value_fits : (z : TPlace) (n : ℕ) → Owned w (value_asks z n) → PlaceTyped w z n
  value_fits (t_variable v t sp) n h = copy_fits t.rate t.elem n h
  value_fits (t_element b i t sp) n h = h.0

  work_fits : (b : Bool) (r : Rate) (t : Elem) (i : ℕ) → Owned w (work_asks b r t i) → WorkFits w b r t i
  work_fits true r t i h = tt
  work_fits false r t i h = h.0

  zero_fits : (r : Rate) (t : Elem) (v n : ℕ) → Owned w (zero_asks r t v n) → ZeroFits w r t v n
  zero_fits Uniform t v n h = h.0
  zero_fits Varying t v n h = (h.0.0, h.1.0)

  zero_read : (r : Rate) (t : Elem) (v n : ℕ) → Owned w (zero_asks r t v n) → IsRead w r v
  zero_read Uniform t v n h = (t, h.1)
  zero_read Varying t v n h = tt

  lane_fits : (i : TExpr) (n : ℕ) → Owned w (start_asks i n) → LaneParts w (is_lane i) n
  lane_fits (t_constant v sp) n h = tt
  lane_fits (t_program_index sp) n h = h.0
  lane_fits (t_place q) n h = tt
  lane_fits (t_convert e x) n h = tt
  lane_fits (t_cast x t sp) n h = tt
  lane_fits (t_unary o x t sp) n h = tt
  lane_fits (t_binary o x y t sp) n h = tt
  lane_fits (t_compare c x y r sp) n h = tt
  lane_fits (t_logic g x y r sp) n h = tt
  lane_fits (t_choose c x y t sp) n h = tt
  lane_fits (t_call c t) n h = tt
  lane_fits (t_library f e xs t sp) n h = tt
  lane_fits (t_packed_store b x sp) n h = tt
  lane_fits (t_packed_load b v sp) n h = tt

  run_fits : (r : Rate) (i : TExpr) (n : ℕ) → Owned w (run_asks r i n) → RunParts w r i n
  run_fits Uniform i n h = lane_fits i n h
  run_fits Varying i n h = tt

  -- ---- trees

  pub operand_fits : (r : Rate) (t : Elem) (x : TExpr) (n : ℕ) → OperandTree r t x → Owned w (operand_asks r x n) → OperandFits w r t x n
  operand_fits r t x n o h =
      record {
        elem = o.elem;
        reaches = o.reaches;
        lift = subst (λ u. LiftFits w (type_of x).rate r u n) o.elem (lift_fits (type_of x).rate r (type_of x).elem n h.0);
      }

  -- each of some values is one that names and types accept
  abbrev pub AreFine : TExprs → Type 0
  AreFine t_no_exprs = Unit {0}
  AreFine (t_expr_then x xs) = FineExpr w.program.functions w.function.variables x × AreFine xs

  parts_fine : (e : Elem) (ps : List Part) (xs : TExprs) → FineParts w.program.functions w.function.variables e ps xs → AreFine xs
  parts_fine e [] t_no_exprs f = tt
  parts_fine e [] (t_expr_then x xs) f = absurd f
  parts_fine e (p ∷ ps) t_no_exprs f = absurd f
  parts_fine e (p ∷ ps) (t_expr_then x xs) f = (f.0, parts_fine e ps xs f.2)

  mutual
    pub expr_fits : (x : TExpr) (n : ℕ) → FineExpr w.program.functions w.function.variables x → ExprTree w.program.functions x → Owned w (expr_asks x n) → ExprParts w x n
    expr_fits (t_constant v sp) n ok t h = h.0
    expr_fits (t_program_index sp) n ok t h = h.0
    expr_fits (t_place q) n ok t h = (place_fits q n ok t h.0, value_fits q n h.1)
    expr_fits (t_convert e x) n ok t h = (t.0, h.0.0, expr_fits x n ok.0 t.1 h.1)
    expr_fits (t_cast x u sp) n ok t h = (operand_fits u.rate u.elem x n t.0 h, expr_fits x n ok.0 t.1 h.1)
    expr_fits (t_unary o x u sp) n ok t h = (operand_fits u.rate u.elem x n t.0 h.1, h.0.0, expr_fits x n ok.0 t.1 h.1.1)
    expr_fits (t_binary o x y u sp) n ok t h =
        (operand_fits u.rate u.elem x n t.0 h.1.1.0, operand_fits u.rate u.elem y (n + 1) t.1 h.1.1.1, h.0.0, expr_fits x n ok.0 t.2 h.1.1.0.1, expr_fits y (n + 1) ok.1 t.3 h.1.1.1.1)
    expr_fits (t_compare c x y r sp) n ok t h =
        (operand_fits r (type_of x).elem x n t.0 h.1.1.0, operand_fits r (type_of x).elem y (n + 1) t.1 h.1.1.1, h.0.0, expr_fits x n ok.0 t.2 h.1.1.0.1, expr_fits y (n + 1) ok.1 t.3 h.1.1.1.1)
    expr_fits (t_logic g x y r sp) n ok t h =
        (operand_fits r Truth x n t.0 h.1.1.1.0, operand_fits r Truth y (n + 1) t.1 h.1.1.1.1, h.0.0, expr_fits x n ok.0 t.2 h.1.1.1.0.1, expr_fits y (n + 1) ok.1 t.3 h.1.1.1.1.1)
    expr_fits (t_choose c x y u sp) n ok t h = (
      t.0.elem,
      t.0.reaches,
      h.0.0,
      operand_fits u.rate u.elem x (first_slot (type_of c).rate n) t.1 h.1.1.0,
      operand_fits u.rate u.elem y
          (second_slot (type_of c).rate n) t.2 h.1.1.1.0,
      expr_fits c n ok.0 t.3 h.1.0,
      expr_fits x (first_slot (type_of c).rate n) ok.1 t.4 h.1.1.0.1,
      expr_fits y (second_slot (type_of c).rate n) ok.2 t.5 h.1.1.1.0.1,
    )
    expr_fits (t_call c u) n ok t h = (h.0.0, call_fits c (Some u) n ok t h.1)
    expr_fits (t_library f e xs u sp) n ok t h = (t.0, h.0.0, values_fit (library_rates f u.rate) xs n (parts_fine e (parts f) xs ok.0) t.1 h.1)
    expr_fits (t_packed_store b x sp) n ok t h =
        (h.0.0, base_fits b n ok.0 t.0 h.1.0, operand_fits Varying (type_of x).elem x (n + 1) (record { elem = refl; reaches = t.1.reaches }) h.1.1.1, expr_fits x (n + 1) ok.1 t.2 h.1.1.1.1)
    expr_fits (t_packed_load b v sp) n ok t h = (h.0.0, base_fits b n ok.0 t h.1.0, h.1.1.1)

    place_fits : (z : TPlace) (n : ℕ) → FinePlace w.program.functions w.function.variables z → PlaceTree w.program.functions z → Owned w (target_asks z n) → PlaceParts w z n
    place_fits (t_variable v u sp) n ok t h = h
    place_fits (t_element b i u sp) n ok t h = (h.0, t.0, t.1, h.1.1.1.0.0, expr_fits i n ok.1 t.2 h.1.1.1.1, run_fits b.ty.rate i n h.1.0, ok.1)

    base_fits : (b : TBase) (n : ℕ) → FineBase w.program.functions w.function.variables b → BaseTree w.program.functions b → Owned w (base_asks b n) → BaseParts w b n
    base_fits (t_whole b sp) n ok t h = (h.0, t.0, h.1.0)
    base_fits (t_from b i sp) n ok t h = (h.0, t.0, t.2, h.1.1.0.0, expr_fits i n ok.1 t.3 h.1.1.1)

    pub values_fit : (rs : List Rate) (xs : TExprs) (n : ℕ) → AreFine xs → ValuesTree w.program.functions rs xs → Owned w (values_asks rs xs n) → ValuesParts w rs xs n
    values_fit rs t_no_exprs n ok t h = tt
    values_fit rs (t_expr_then x xs) n ok t h =
        (operand_fits (next_rate rs) (type_of x).elem x n t.0 h.1.0, expr_fits x n ok.0 t.1 h.1.0.1, values_fit (later rs) xs (n + 1) ok.1 t.2 h.1.1)

    call_fits : (c : TCall) (answer : Option Ty) (n : ℕ) → FineCall w.program.functions w.function.variables c answer → CallTree w.program.functions c answer → Owned w (call_asks c n) → CallParts w c answer n
    call_fits (t_called f xs sp) answer n ok t h =
        let same : ok.0 ≡ t.0 = same_Some ok.0 t.0 (sym ok.1 ∙ t.1) in
        (t.0, t.1, t.2, arguments_fit (params_of t.0) xs n (subst (λ g. FineArguments w.program.functions w.function.variables (params_of g) xs) same ok.3) t.3 h.1)

    arguments_fit : (vs : List Declared) (xs : TArguments) (n : ℕ) → FineArguments w.program.functions w.function.variables vs xs → ArgumentsTree w.program.functions vs xs → Owned w (arguments_asks xs n) → ArgumentsParts w vs xs n
    arguments_fit [] t_no_arguments n ok t h = tt
    arguments_fit [] (t_argument_then x xs) n ok t h = absurd t
    arguments_fit (v ∷ vs) t_no_arguments n ok t h = absurd t
    arguments_fit (v ∷ vs) (t_argument_then x xs) n ok t h = (argument_fits v.holds v.constant x n ok.0 t.0 h.1.0, arguments_fit vs xs (n + 1) ok.1 t.1 h.1.1)

    argument_fits : (y : Holds) (k : Bool) (x : TArgument) (n : ℕ) → FineArgument w.program.functions w.function.variables y k x → ArgumentTree w.program.functions y x → Owned w (argument_asks x n) → ArgumentParts w y x n
    argument_fits (holds.Value u) k (t_by_value x) n ok t h =
        (record { elem = t.0.elem; reaches = t.0.reaches; lift = subst (λ e. LiftFits w (type_of x).rate u.rate e n) t.0.elem (lift_any (type_of x).rate u.rate (type_of x).elem n h.0) }, expr_fits x n ok.0 t.1 h.1)
    argument_fits (holds.Value u) k (t_by_name b sp) n ok t h = absurd t
    argument_fits (holds.Given e) k (t_by_value x) n ok t h = absurd t
    argument_fits (holds.Given e) k (t_by_name b sp) n ok t h = (h, t.0)
    argument_fits (holds.Local u m) k (t_by_value x) n ok t h = absurd t
    argument_fits (holds.Local u m) k (t_by_name b sp) n ok t h = absurd t

  abbrev pub SimpleOther : TSimple → Type 0
  SimpleOther (t_value x) = Unit {0}
  SimpleOther (t_run c) = Unit {0}
  SimpleOther (t_assign z x sp) = TargetOther w z
  SimpleOther (t_update o u z x sp) = TargetOther w z
  SimpleOther (t_step o u z sp) = TargetOther w z

  -- the place that is assigned to
  target_place : (z : TPlace) → FineTarget w.program.functions w.function.variables z → FinePlace w.program.functions w.function.variables z
  target_place (t_variable v t sp) f = record { constant = false; is = f }
  target_place (t_element b i t sp) f = f.0

  pub simple_fits : (x : TSimple) (n : ℕ) → FineSimple w.program.functions w.function.variables x → SimpleTree w.program.functions x → Owned w (simple_asks x n) → SimpleOther x → SimpleParts w x n
  simple_fits (t_value x) n ok t h o = expr_fits x n ok t h
  simple_fits (t_run c) n ok t h o = call_fits c None n ok t h
  simple_fits (t_assign z x sp) n ok t h o =
      (place_fits z n (target_place z ok.0) t.0 h.0, operand_fits (place_type z).rate (place_type z).elem x (beyond z n) t.1 h.1.1, expr_fits x (beyond z n) ok.1.0 t.2 h.1.1.1, o)
  simple_fits (t_update o u z x sp) n ok t h other =
      let working = work_fits (same_elem (place_type z).elem u) (place_type z).rate u (beyond z n + 1) h.1.1.1.0 in
      (record { number = t.3; target = place_fits z n (target_place z ok.0) t.0 h.0; working = working; back = read_fits z (beyond z n + 1) h.1.1.1.1; other = other }, operand_fits (place_type z).rate u x (beyond z n) t.1 h.1.1.0, expr_fits x (beyond z n) ok.1.0 t.2 h.1.1.0.1)
  simple_fits (t_step o u z sp) n ok t h other =
      let working = work_fits (same_elem (place_type z).elem u) (place_type z).rate u (beyond z n + 1) h.1.1.1.0 in
      (record { number = t.1; target = place_fits z n (target_place z ok.0) t.0 h.0; working = working; back = read_fits z (beyond z n + 1) h.1.1.1.1; other = other }, h.1.1.0.0.0, lift_fits Uniform (place_type z).rate u (beyond z n) h.1.1.0.1)

  item_fits : (x : TItem) (n : ℕ) → FineItem w.program.functions w.function.variables x → ItemTree w.program.functions x → Owned w (item_asks n x) → ItemOther w x → ItemParts w n x
  item_fits (t_plain v u sp) n ok t h o = (zero_fits u.rate u.elem v n h, (o, zero_read u.rate u.elem v n h))
  item_fits (t_with_value v u x sp) n ok t h o = (h.0.0, operand_fits u.rate u.elem x n t.0 h.1, expr_fits x n ok.1.0 t.1 h.1.1, (o, is_read w u.rate u.elem v h.0.1))
  item_fits (t_with_size b sp) n ok t h o = h

  pub items_fit : (xs : List TItem) (n : ℕ) → All (FineItem w.program.functions w.function.variables) xs → ItemsTree w.program.functions xs → Owned w (items_asks n xs) → ItemsOther w xs → ItemsParts w n xs
  items_fit [] n ok t h o = tt
  items_fit (x ∷ xs) n ok t h o = (item_fits x n (ok 0 x (omega arith)) t.0 h.0 o.0, items_fit xs n (λ k d lt. ok (suc k) d (omega (arith, lt))) t.1 h.1 o.1)

  -- ---- what fits, part by part

  -- the table has what is the function's own
  pub owned : (answer : Option Ty) (a : Ask) → IsOwn w.function.variables answer a → InTable w a → Owned w a
  owned answer Nothing o f = tt
  owned answer (Both a b) o f = (owned answer a o.0 f.0, owned answer b o.1 f.1)
  owned answer (Register r (Variable v) t) o f = (f, o)
  owned answer (Register r Result t) o f = (f, tt)
  owned answer (Register r (Spare u j) t) o f = (f, tt)
  owned answer (Register r Place t) o f = (f, tt)
  owned answer (Register r (Fresh j) t) o f = (f, tt)
  owned answer (Register r (Kept u b) t) o f = (f, tt)
  owned answer (ArrayOf b) o f = f
  owned answer (LocalOf b) o f = f
  owned answer (MaskOf k) o f = f
  owned answer (Number k) o f = f
  owned answer (Loads v) o f = f

  pub expr_parts : (x : TExpr) (n : ℕ) → ExprFits w x n → ExprParts w x n
  expr_parts x n fit = expr_fits x n fit.fine (expr_tree w.program.functions w.function.variables x fit.fine fit.rated) (owned None (expr_asks x n) (expr_own w.function.variables None w.program.functions x n fit.fine) fit.named)

  -- what is assigned to is no constant, and a variable that counts lanes or is known is one
  open_other : FixedConstant w → (v : ℕ) (t : Ty) → HoldsOpen w.function.variables v t → IsOther w v
  open_other constant v t h = go (is_fixed w.layout v) refl
    where
      go : (b : Bool) → is_fixed w.layout v ≡ b → IsOther w v
      go false e = e
      go true e = let no : true ≡ false = sym (constant v e) ∙ ap is_constant h in absurd (cc)

  other_at : (r : Rate) (v : ℕ) → IsOther w v → OtherAt w r v
  other_at Uniform v o = tt
  other_at Varying v o = o

  target_other : FixedConstant w → (z : TPlace) → FineTarget w.program.functions w.function.variables z → TargetOther w z
  target_other constant (t_variable v t sp) f = (other_at t.rate v (open_other constant v t f), is_read w t.rate t.elem v (record { constant = false; is = f }))
  target_other constant (t_element b i t sp) f = tt

  pub simple_other : FixedConstant w → (x : TSimple) → FineSimple w.program.functions w.function.variables x → SimpleOther x
  simple_other constant (t_value x) f = tt
  simple_other constant (t_run c) f = tt
  simple_other constant (t_assign z x sp) f = target_other constant z f.0
  simple_other constant (t_update o u z x sp) f = target_other constant z f.0
  simple_other constant (t_step o u z sp) f = target_other constant z f.0

  pub simple_parts : (ready : IsSettled w) (x : TSimple) (n : ℕ) → SimpleFits w x n → SimpleParts w x n
  simple_parts ready x n fit =
      simple_fits x n fit.fine (simple_tree w.program.functions w.function.variables x fit.fine fit.rated)
      (owned None (simple_asks x n) (simple_own w.function.variables None w.program.functions x n fit.fine) fit.named)
      (simple_other (fixed_constant w ready) x fit.fine)

  pub items_parts : (xs : List TItem) (n : ℕ) → ItemsFit w n xs → ItemsParts w n xs
  items_parts xs n fit =
      items_fit xs n fit.fine (items_tree w.program.functions w.function.variables xs fit.fine fit.rated)
      (owned None (items_asks n xs) (items_own w.function.variables None w.program.functions xs n fit.fine) fit.named) fit.others
