-- The rates of a program without a breach are as code asks.
use Rattle.std.proofs.Common.{◌≡◌, ℕ, zero, suc, List, [], ◌∷◌, Option, Some, None, true, false, refl, sym, subst, take, length, inl, inr}
use Rattle.std.specs.Prelude.{nat_lt, slice_get}
use Rattle.std.proofs.lemmas.Option.{same_Some, get_or_from_slice_get, slice_get_within}
use Rattle.std.specs.List.{All}
use Rattle.isp_base.specs.declared.types.Rate.{Rate}
use Rattle.isp_base.specs.declared.types.Rate.TheVariants.{Uniform, Varying}
use Rattle.isp_base.specs.declared.types.Span.{Span}
use Rattle.isp_base.specs.declared.types.Ty.{Ty}
use Rattle.isp_lex.specs.declared.fault.Fault.{Fault}
use Rattle.isp_lex.specs.declared.fault.Rule.TheVariants.{VaryingToUniform, BadExport}
use Rattle.isp_lex.specs.Faults.{fault}
use Rattle.isp_typed.specs.Fine.{FineFunction, params_of}
use Rattle.isp_typed.specs.Typed.{TExpr, t_constant, t_program_index, t_place, t_convert, t_cast, t_unary, t_binary, t_compare, t_logic, t_choose, t_call, t_library, t_packed_store}
use Rattle.isp_typed.specs.Typed.{t_packed_load, TPlace, t_variable, t_element, TArgument, t_by_value, t_by_name, TCall, t_called, TArguments, t_no_arguments, t_argument_then, TExprs}
use Rattle.isp_typed.specs.Typed.{t_no_exprs, t_expr_then, TItem, t_plain, t_with_value, t_with_size, TSimple, t_value, t_run, t_assign, t_update, t_step, TFirst, t_first_declare}
use Rattle.isp_typed.specs.Typed.{t_first_simple, TFunction, Program, place_type, type_of, span_of, TBase, t_whole, t_from, TRange}
use Rattle.isp_typed.specs.Typed.{TStmt, t_block, t_declare, t_simple, t_if, t_if_else, t_while, t_do, t_for, t_foreach, t_foreach_active, t_foreach_unique}
use Rattle.isp_typed.specs.Typed.{t_unmasked, t_jump, t_return, t_print, t_assert, TBlock, t_braces, TStmts, t_no_stmts, t_stmt_then}
use Rattle.isp_typed.specs.declared.variable.Holds.{Holds}
use Rattle.isp_typed.specs.declared.variable.Holds.TheVariants.{Value as AValue, Given, Local}
use Rattle.isp_typed.specs.declared.variable.Variable.{Variable}
use Rattle.isp_typed.specs.Scoped.{Scope, ScopedFunction, StmtAt, BlockAt, StmtsAt, declared, scope_after, number_after, scope_after_first, scope_after_stmt, number_after_stmt}
use Rattle.isp_rates.specs.declared.exits.Within.{Within}
use Rattle.isp_rates.specs.Breaches.{OfAny, OfEach}
use Rattle.isp_rates.specs.Rates as rates
use Rattle.isp_rates.specs.Rates.{goes_to, variables_of, DemandBreach, ExprBreach, PlaceBreach, BaseBreach, CallBreach, ArgumentsBreach, ArgumentBreach, ValuesBreach, part_rate}
use Rattle.isp_lower_code.specs.Callees.{rate_held, rates_held, rates_in}
use Rattle.isp_rates.specs.Exits.{at_start, in_loop, in_foreach, in_turns, in_unmasked, ItemBreach, SimpleBreach, FirstBreach, RangeBreach, StmtBreach, BlockBreach, StmtsBreach}
use Rattle.isp_rates.specs.Program.{ParametersBreach, ResultBreach, FunctionBreach}
use Rattle.isp_rates.specs.Accepted.{IsAccepted}
use Rattle.isp_typed.specs.Library.{asks_uniform, parts}
use Rattle.isp_typed.specs.declared.library.Part.{Part}
use Rattle.isp_typed.specs.declared.library.Part.TheVariants as part
use Rattle.isp_lower_code.specs.Library.{rate_taken, rates_taken}
use Rattle.isp_lower_code.specs.Rated.{Reaches, IsRated, PlaceRated, BaseRated, CallRated, ArgumentsRated, ArgumentRated, ValuesRated, RatedAt, SimpleRated, ItemsRated}
use Rattle.isp_masks_code.specs.Compiled.{AreOne, IsOne}
use Rattle.isp_masks_code.specs.Rated.{AllRated, AnswerRated, FirstRated, TestRated, StepRated, StmtRated, BlockRated, StmtsRated, RangesRated}
use Rattle.isp_meaning.specs.Loads.{no_variable}
use Rattle.isp_masks_code.specs.Free.{BlockFree}
use Rattle.isp_masks_code.proofs.Free.{block_free, none_before}

-- ---- no breach

abbrev NoneOf : (Fault → Type 0) → Type 0
NoneOf B = (f : Fault) → B f → ⊥

demand_own : (wanted : Rate) (x : TExpr) (B : Fault → Type 0) → NoneOf (DemandBreach wanted x B) → NoneOf B
demand_own wanted x B clean = λ f b. clean f (inl b)

goes_reaches : (wanted given : Rate) → (goes_to wanted given ≡ false → ⊥) → Reaches given wanted
goes_reaches wanted Uniform clean = tt
goes_reaches Varying Varying clean = tt
goes_reaches Uniform Varying clean = absurd (clean refl)

demand_reaches : (wanted : Rate) (x : TExpr) (B : Fault → Type 0) → NoneOf (DemandBreach wanted x B) → Reaches (type_of x).rate wanted
demand_reaches wanted x B clean =
    goes_reaches wanted (type_of x).rate (λ e. clean (fault VaryingToUniform (span_of x)) (inr (demand_own wanted x B clean, (e, refl))))

-- ---- arguments, and values of the library

each_reaches : (r : Rate) → Reaches r Varying
each_reaches Uniform = tt
each_reaches Varying = tt

any_rate : (wanted r : Rate) → Reaches r wanted → Reaches r Varying
any_rate wanted r h = each_reaches r

held_alike : (y : Holds) → rates.rate_held y ≡ rate_held y
held_alike (AValue t) = refl
held_alike (Given t) = refl
held_alike (Local t n) = refl

param_count : Option TFunction → ℕ
param_count None = 0
param_count (Some h) = length h.params

taken_are : (fs : List TFunction) (g : ℕ) → rates_held (take (param_count (slice_get fs g)) (variables_of fs g)) ≡ rates_in fs g
unfolding param_count
taken_are [] g = refl
taken_are (h ∷ fs) zero = refl
taken_are (h ∷ fs) (suc g) = taken_are fs g

part_alike : (p : Part) → part_rate p ≡ rate_taken Varying (asks_uniform p)
part_alike part.Own = refl
part_alike part.Same = refl
part_alike part.Number = refl
part_alike part.Index = refl
part_alike part.Truth = refl

-- ---- trees

module _ (fs : List TFunction) where
  mutual
    expr_rated : (x : TExpr) → NoneOf (ExprBreach fs x) → IsRated fs x
    expr_rated (t_constant v sp) clean = tt
    expr_rated (t_program_index sp) clean = tt
    expr_rated (t_place q) clean = place_rated q clean
    expr_rated (t_convert e x) clean = expr_rated x clean
    expr_rated (t_cast x t sp) clean =
        (demand_reaches t.rate x (ExprBreach fs x) clean, expr_rated x (demand_own t.rate x (ExprBreach fs x) clean))
    expr_rated (t_unary o x t sp) clean = expr_rated x clean
    expr_rated (t_binary o x y t sp) clean =
        (expr_rated x (λ e b. clean e (inl b)), expr_rated y (λ e b. clean e (inr b)))
    expr_rated (t_compare k x y r sp) clean =
        (expr_rated x (λ e b. clean e (inl b)), expr_rated y (λ e b. clean e (inr b)))
    expr_rated (t_logic g x y r sp) clean =
        (expr_rated x (λ e b. clean e (inl b)), expr_rated y (λ e b. clean e (inr b)))
    expr_rated (t_choose q x y t sp) clean =
        (expr_rated q (λ e b. clean e (inl b)), expr_rated x (λ e b. clean e (inr (inl b))), expr_rated y (λ e b. clean e (inr (inr b))))
    expr_rated (t_call k t) clean = call_rated k clean
    expr_rated (t_library g e xs t sp) clean = values_rated (parts g) xs clean
    expr_rated (t_packed_store b x sp) clean =
        (base_rated b (λ e z. clean e (inl z)), expr_rated x (λ e z. clean e (inr z)))
    expr_rated (t_packed_load b v sp) clean = base_rated b clean

    -- the array is one for the gang, and the index uniform
    base_rated : (b : TBase) → NoneOf (BaseBreach fs b) → BaseRated fs b
    base_rated (t_whole b sp) clean = goes_reaches Uniform b.ty.rate (λ e. clean (fault VaryingToUniform sp) (e, refl))
    base_rated (t_from b i sp) clean =
        (goes_reaches Uniform b.ty.rate (λ e. clean (fault VaryingToUniform sp) (inl (e, refl))), demand_reaches Uniform i (ExprBreach fs i) (λ e z. clean e (inr z)), expr_rated i (demand_own Uniform i (ExprBreach fs i) (λ e z. clean e (inr z))))

    place_rated : (z : TPlace) → NoneOf (PlaceBreach fs z) → PlaceRated fs z
    place_rated (t_variable v t sp) clean = tt
    place_rated (t_element b i t sp) clean = expr_rated i clean

    -- a value that is asked uniform is uniform
    values_rated : (ps : List Part) (xs : TExprs) → NoneOf (ValuesBreach fs ps xs) → ValuesRated fs (rates_taken Varying ps) xs
    values_rated ps t_no_exprs clean = tt
    values_rated [] (t_expr_then x xs) clean =
        (demand_reaches Varying x (ExprBreach fs x) (λ e b. clean e (inl b)), expr_rated x (demand_own Varying x (ExprBreach fs x) (λ e b. clean e (inl b))), values_rated [] xs (λ e b. clean e (inr b)))
    values_rated (p ∷ ps) (t_expr_then x xs) clean = (
      subst (Reaches (type_of x).rate) (part_alike p) (demand_reaches (part_rate p) x (ExprBreach fs x) (λ e b. clean e (inl b))),
      expr_rated x
          (demand_own (part_rate p) x (ExprBreach fs x) (λ e b. clean e (inl b))),
      values_rated ps xs (λ e b. clean e (inr b)),
    )

    -- what an argument is asked of here it is asked of there: past the parameters nothing
    call_rated : (k : TCall) → NoneOf (CallBreach fs k) → CallRated fs k
    call_rated (t_called g xs sp) clean =
        subst (λ z. ArgumentsRated fs z xs) (taken_are fs g) (arguments_rated (param_count (slice_get fs g)) (variables_of fs g) xs clean)

    arguments_rated : (n : ℕ) (vs : List Variable) (xs : TArguments) → NoneOf (ArgumentsBreach fs vs xs) → ArgumentsRated fs (rates_held (take n vs)) xs
    arguments_rated n vs t_no_arguments clean = tt
    arguments_rated zero vs (t_argument_then x xs) clean =
        (argument_rated (rates.next_rate vs) Varying x (any_rate (rates.next_rate vs)) (λ e b. clean e (inl b)), arguments_rated zero (rates.later vs) xs (λ e b. clean e (inr b)))
    arguments_rated (suc n) [] (t_argument_then x xs) clean =
        (argument_rated Varying Varying x (any_rate Varying) (λ e b. clean e (inl b)), arguments_rated (suc n) [] xs (λ e b. clean e (inr b)))
    arguments_rated (suc n) (v ∷ vs) (t_argument_then x xs) clean =
        (argument_rated (rates.rate_held v.holds) (rate_held v.holds) x (λ r h. subst (Reaches r) (held_alike v.holds) h) (λ e b. clean e (inl b)), arguments_rated n vs xs (λ e b. clean e (inr b)))

    argument_rated : (wanted at : Rate) (x : TArgument) → ((r : Rate) → Reaches r wanted → Reaches r at) → NoneOf (ArgumentBreach fs wanted x) → ArgumentRated fs at x
    argument_rated wanted at (t_by_value x) go clean = (go (type_of x).rate (demand_reaches wanted x (ExprBreach fs x) clean), expr_rated x (demand_own wanted x (ExprBreach fs x) clean))
    argument_rated wanted at (t_by_name b sp) go clean = go b.ty.rate (goes_reaches wanted b.ty.rate (λ e. clean (fault VaryingToUniform sp) (e, refl)))

  rated_at : (r : Rate) (x : TExpr) → NoneOf (DemandBreach r x (ExprBreach fs x)) → RatedAt fs r x
  rated_at r x clean = (demand_reaches r x (ExprBreach fs x) clean, expr_rated x (demand_own r x (ExprBreach fs x) clean))

  -- a value of any rate
  each_rated : (x : TExpr) → NoneOf (ExprBreach fs x) → RatedAt fs Varying x
  each_rated x clean = (each_reaches (type_of x).rate, expr_rated x clean)

  simple_rated : (x : TSimple) → NoneOf (SimpleBreach fs x) → SimpleRated fs x
  simple_rated (t_value x) clean = expr_rated x clean
  simple_rated (t_run k) clean = call_rated k clean
  simple_rated (t_assign z x sp) clean =
      (place_rated z (λ e b. clean e (inl b)), rated_at (place_type z).rate x (λ e b. clean e (inr b)))
  simple_rated (t_update o t z x sp) clean =
      (place_rated z (λ e b. clean e (inl b)), rated_at (place_type z).rate x (λ e b. clean e (inr b)))
  simple_rated (t_step o t z sp) clean = place_rated z clean

  items_rated : (xs : List TItem) → NoneOf (OfEach (ItemBreach fs) xs) → ItemsRated fs xs
  items_rated [] clean = tt
  items_rated (t_plain v t sp ∷ xs) clean = (tt, items_rated xs (λ e b. clean e (inr b)))
  items_rated (t_with_size a sp ∷ xs) clean = (tt, items_rated xs (λ e b. clean e (inr b)))
  items_rated (t_with_value v t x sp ∷ xs) clean =
      (rated_at t.rate x (λ e b. clean e (inl b)), items_rated xs (λ e b. clean e (inr b)))

  -- the values of a `print`
  all_rated : (xs : List TExpr) → NoneOf (OfEach (ExprBreach fs) xs) → AllRated fs xs
  all_rated [] clean = tt
  all_rated (x ∷ xs) clean =
      (expr_rated x (λ e b. clean e (inl b)), all_rated xs (λ e b. clean e (inr b)))

  -- the parts of a `for` that may be left out
  first_rated : (o : Option TFirst) → NoneOf (OfAny (FirstBreach fs) o) → FirstRated fs o
  first_rated None clean = tt
  first_rated (Some (t_first_declare xs sp)) clean = items_rated xs clean
  first_rated (Some (t_first_simple x)) clean = simple_rated x clean

  test_rated : (o : Option TExpr) → NoneOf (OfAny (ExprBreach fs) o) → TestRated fs o
  test_rated None clean = tt
  test_rated (Some e) clean = expr_rated e clean

  step_rated : (o : Option TSimple) → NoneOf (OfAny (SimpleBreach fs) o) → StepRated fs o
  step_rated None clean = tt
  step_rated (Some x) clean = simple_rated x clean

  ranges_rated : (rs : List TRange) → NoneOf (OfEach (RangeBreach fs) rs) → RangesRated fs rs
  ranges_rated [] clean = tt
  ranges_rated (r ∷ rs) clean =
      (rated_at Uniform r.start (λ e b. clean e (inl (inl b))), rated_at Uniform r.end (λ e b. clean e (inl (inr b))), ranges_rated rs (λ e b. clean e (inr b)))

  returned_rated : (answer : Option Ty) (w : Within) (k : Span) (x : TExpr) (sp : Span) → NoneOf (StmtBreach fs answer w (t_return k (Some x) sp)) → AnswerRated fs answer x
  returned_rated None w k x sp clean = expr_rated x (demand_own Varying x (ExprBreach fs x) (λ e b. clean e (inr b)))
  returned_rated (Some t) w k x sp clean = rated_at t.rate x (λ e b. clean e (inr b))

  module _ (answer : Option Ty) where
    mutual
      stmt_rated : (v : Scope) (m : ℕ) (w : Within) (x : TStmt) → StmtAt v m x → NoneOf (StmtBreach fs answer w x) → StmtRated fs answer x
      stmt_rated v m w (t_block b) at clean = block_rated v m w b at clean
      stmt_rated v m w (t_declare xs sp) at clean = items_rated xs clean
      stmt_rated v m w (t_simple x sp) at clean = simple_rated x clean
      stmt_rated v m w (t_if k n e x sp) at clean =
          (expr_rated e (λ g b. clean g (inl b)), stmt_rated v m w x at.2 (λ g b. clean g (inr b)))
      stmt_rated v m w (t_if_else k n e x y sp) at clean =
          (expr_rated e (λ g b. clean g (inl b)), stmt_rated v m w x at.2 (λ g b. clean g (inr (inl b))), stmt_rated v (number_after_stmt m x) w y at.3 (λ g b. clean g (inr (inr b))))
      stmt_rated v m w (t_while k n e x sp) at clean =
          (expr_rated e (λ g b. clean g (inl b)), stmt_rated v m (in_loop w) x at.2 (λ g b. clean g (inr b)))
      stmt_rated v m w (t_do k n x e sp) at clean =
          (stmt_rated v m (in_loop w) x at.1 (λ g b. clean g (inl b)), expr_rated e (λ g b. clean g (inr b)))
      stmt_rated v m w (t_for k n first e step i x sp) at clean = (
        first_rated first (λ g b. clean g (inl b)),
        test_rated e (λ g b. clean g (inr (inl b))),
        step_rated step
            (λ g b. clean g (inr (inr (inl b)))),
        stmt_rated (scope_after_first v m first) i (in_loop w) x at.5
            (λ g b. clean g (inr (inr (inr b)))),
      )
      stmt_rated v m w (t_foreach k n rs x sp) at clean =
          (at.2, ranges_rated rs (λ g b. clean g (inr (inl b))), stmt_rated (scope_after v m rs) (number_after m rs) (in_foreach w) x at.4 (λ g b. clean g (inr (inr b))), at.1)
      stmt_rated v m w (t_foreach_active k n i x sp) at clean = stmt_rated (declared m v) (suc m) (in_turns w) x at.2 clean
      stmt_rated v m w (t_foreach_unique k n i t e x sp) at clean =
          (each_rated e (λ g b. clean g (inl b)), stmt_rated (declared m v) (suc m) (in_turns w) x at.3 (λ g b. clean g (inr b)))
      stmt_rated v m w (t_unmasked k b sp) at clean = block_rated v m (in_unmasked w) b at clean
      stmt_rated v m w (t_jump j k sp) at clean = tt
      stmt_rated v m w (t_return k None sp) at clean = tt
      stmt_rated v m w (t_return k (Some x) sp) at clean = returned_rated answer w k x sp clean
      stmt_rated v m w (t_print k text xs sp) at clean = all_rated xs clean
      stmt_rated v m w (t_assert x k sp) at clean = expr_rated x clean

      pub block_rated : (v : Scope) (m : ℕ) (w : Within) (b : TBlock) → BlockAt v m b → NoneOf (BlockBreach fs answer w b) → BlockRated fs answer b
      block_rated v m w (t_braces xs sp) at clean = stmts_rated v m w xs at clean

      stmts_rated : (v : Scope) (m : ℕ) (w : Within) (xs : TStmts) → StmtsAt v m xs → NoneOf (StmtsBreach fs answer w xs) → StmtsRated fs answer xs
      stmts_rated v m w t_no_stmts at clean = tt
      stmts_rated v m w (t_stmt_then x xs) at clean =
          (stmt_rated v m w x at.0 (λ g b. clean g (inl b)), stmts_rated (scope_after_stmt v m x) (number_after_stmt m x) w xs at.1 (λ g b. clean g (inr b)))

-- ---- what is exported

-- a variable that holds a value and stands for a parameter without a breach holds one for the gang
is_uniform : (r : Rate) → (goes_to Uniform r ≡ false → ⊥) → r ≡ Uniform
is_uniform Uniform clean = refl
is_uniform Varying clean = absurd (clean refl)

holds_one : (y : Holds) → (goes_to Uniform (rate_held y) ≡ false → ⊥) → IsOne y
holds_one (AValue t) clean = is_uniform t.rate clean
holds_one (Given e) clean = tt
holds_one (Local t n) clean = tt

passed_one : (ss : List Span) (vs : List Variable) → NoneOf (ParametersBreach ss vs) → AreOne (take (length ss) vs)
passed_one [] [] clean = tt
passed_one [] (x ∷ vs) clean = tt
passed_one (s ∷ ss) [] clean = tt
passed_one (s ∷ ss) (x ∷ vs) clean =
    (holds_one x.holds (λ g. clean (fault BadExport s) (inl (g, refl))), passed_one ss vs (λ f b. clean f (inr b)))

result_one : (s : Span) (o : Option Ty) → NoneOf (OfAny (ResultBreach s) o) → (t : Ty) → o ≡ Some t → t.rate ≡ Uniform
result_one s None clean t e = absurd (cc)
result_one s (Some u) clean t e = subst (λ z. z.rate ≡ Uniform) (same_Some u t e) (is_uniform u.rate (λ g. clean (fault BadExport s) (g, refl)))

-- ---- programs

breach_of : {A : Type 0} (B : A → Fault → Type 0) (xs : List A) (k : ℕ) (a : A) → slice_get xs k ≡ Some a → (f : Fault) → B a f → OfEach B xs f
breach_of B [] k a e f b = absurd (cc)
breach_of B (x ∷ xs) zero a e f b = inl (subst (λ z. B z f) (sym (same_Some x a e)) b)
breach_of B (x ∷ xs) (suc k) a e f b = inr (breach_of B xs k a e f b)

fine_of : {A : Type 0} (P : A → Type 0) (xs : List A) (k : ℕ) (a : A) → All P xs → slice_get xs k ≡ Some a → P a
fine_of P xs k a all e = subst P (get_or_from_slice_get xs k a a e) (all k a (slice_get_within xs k a e))

-- The body of a function is as code asks; and an exported function takes one value for the gang
-- where it takes a value, and gives one where it gives a value.
pub record FunctionFits (fs : List TFunction) (h : TFunction) : Type 0 where
  pub rated : BlockRated fs h.answer h.body
  pub free : BlockFree no_variable h.body
  pub passed : h.exported ≡ true → AreOne (params_of h)
  pub result : h.exported ≡ true → (t : Ty) → h.answer ≡ Some t → t.rate ≡ Uniform

pub function_fits : (p : Program) → IsAccepted p → (f : ℕ) (h : TFunction) → slice_get p.functions f ≡ Some h → FunctionFits p.functions h
function_fits p accepted f h e =
    let is : FineFunction p.functions h = fine_of (FineFunction p.functions) p.functions f h accepted.fine.each e in
    let scoped : ScopedFunction h = fine_of ScopedFunction p.functions f h accepted.scoped.each e in
    let own : NoneOf (FunctionBreach p.functions h) = λ g b. accepted.sound g (breach_of (FunctionBreach p.functions) p.functions f h e g b) in record {
      rated = block_rated p.functions h.answer (λ x. nat_lt x (length h.params)) (length h.params) at_start h.body scoped.body (λ g b. own g (inr b));
      free = block_free p.functions h.answer no_variable (λ x. nat_lt x (length h.params)) (length h.params) at_start h.body (none_before (length h.params)) (λ i is. absurd (cc)) scoped.body (λ g b. own g (inr b));
      passed = λ out. passed_one h.params h.variables (λ g b. own g (inl (out, inl b)));
      result = λ out. result_one h.span h.answer (λ g b. own g (inl (out, inr b)));
    }
