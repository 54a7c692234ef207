-- What the laws use of a statement, from what is asked of it.
use Rattle.std.proofs.Common.{◌≡◌, ◌≤◌, ℕ, ◌+◌, List, [], ◌∷◌, length, Option, Some, None, refl, sym, ap, ◌∙◌, Bool, true, false, subst, eqb-true, eq-eqb, arith}
use Rattle.isp_base.specs.Ranks.{operand}
use Rattle.isp_base.specs.declared.types.Elem.TheVariants.{Bool as Truth, I32, I64}
use Rattle.isp_base.specs.declared.types.Rate.{Rate}
use Rattle.isp_base.specs.declared.types.Rate.TheVariants.{Uniform, Varying}
use Rattle.isp_base.specs.declared.types.Ty.{Ty}
use Rattle.isp_typed.specs.declared.variable.Variable as variable
use Rattle.isp_typed.specs.Typed.{TExpr, t_exprs, type_of, elem_of, TSimple, TFirst, t_first_declare, t_first_simple, TRange, TStmt, t_block, t_declare, t_simple, t_if}
use Rattle.isp_typed.specs.Typed.{t_if_else, t_while, t_do, t_for, t_foreach, t_foreach_active, t_foreach_unique, t_unmasked, t_jump, t_return, t_print, t_assert, TBlock}
use Rattle.isp_typed.specs.Typed.{t_braces, TStmts, t_no_stmts, t_stmt_then, TItem, t_plain, t_with_value, t_with_size}
use Rattle.isp_steady.specs.Indices.{indices_of, known_indices}
use Rattle.isp_steady.specs.Known.{is_known}
use Rattle.isp_lower_code.specs.Asks.{Ask}
use Rattle.isp_lower_code.specs.Fits.{ItemsOther}
use Rattle.isp_lower_code.specs.Rated.{Reaches}
use Rattle.isp_lower_code.specs.Setting.{Setting, OtherAt, is_constant}
use Rattle.isp_lower_code.proofs.Lemmas.{AreFine, ExprTree, IsHeldIn, OperandTree, Owned, OwnTable, owned, expr_fits, operand_fits, values_fit, simple_fits, items_fit, FixedConstant, all_grow, named_known, simple_other, within_fixed}
use Rattle.isp_masks_code.specs.Prints.{own_rates}
use Rattle.isp_masks_code.specs.Asks.{answer_asks, unique_asks, bound_asks, bounds_asks, places_asks, ranges_asks, part_slot, parts_slot, first_asks, test_part_asks, step_asks, stmt_asks, block_asks, stmts_asks}
use Rattle.isp_masks_code.specs.Ranges.{places_slot, runs_slot}
use Rattle.isp_masks_code.specs.Fits.{StmtFits, BlockFits}
use Rattle.isp_masks_code.proofs.Own.{block_own, stmt_own}
use Rattle.isp_masks_code.proofs.Parts.{AnswerFits, BoundParts, BoundsParts, RangesTyped, ForeachFits, UniqueFits, FirstFits, TestFits, StepFits, StmtParts, BlockParts, StmtsParts, RangesConstant}
use Rattle.isp_masks_code.proofs.Rated.{stmt_tree, block_tree}
use Rattle.isp_masks_code.proofs.Trees.{AnswerTree, RangesTree, FirstTree, TestTree, StepTree, StmtTree, BlockTree, StmtsTree}
use Rattle.isp_masks_code.proofs.Bodies.{body_as, known_as, named_same, run_as, with_layout}
use Rattle.isp_masks_code.proofs.Indices.{known_index}
use Rattle.isp_masks_code.specs.Free.{AreIndices, BlockFree, FirstFree, ItemsFree, StmtFree, StmtsFree, is_index, last_index_of}
use Rattle.isp_masks_code.specs.Statements.{body_layout, last_layout, layout_by}
use Rattle.isp_lower_code.specs.Layout.{Layout, NoneFixed, is_counter_of, is_fixed, outside}
use Rattle.isp_lower_code.specs.RowLayout.{with_known}
use Rattle.isp_lower_code.specs.Tables.{AnyMask, IsLoadedIn}
use Rattle.isp_typed.specs.Fine.{FineBlock, FineExpr, FineFirst, FineReturned, FineValue, FineRange, FineSimple, FineStmt, FineStmts, HoldsArray}
use Rattle.isp_typed.specs.Indices.{foreach_index}
use Rattle.isp_tree.specs.Sound.{IfAny}
use Rattle.isp_code.specs.Listing.{Routine}
use Rattle.isp_base.specs.Sets.{Mask}
use Rattle.isp_base.specs.declared.types.Elem.{Elem}
use Rattle.std.specs.List.{All}
use Rattle.std.specs.Prelude.{slice_get, suc, nat_eq, ◌||◌}

module _ (w : Setting) where
  other_of : (r : Rate) (v : ℕ) → is_fixed w.layout v ≡ false → OtherAt w r v
  other_of Uniform v f = tt
  other_of Varying v f = f

  abbrev Named : Ask → Type 0
  Named a = Owned w a

  answer_fits : (answer : Option Ty) (x : TExpr) (n : ℕ) → FineReturned w.program.functions w.function.variables answer (Some x) → AnswerTree w.program.functions answer x → Named (answer_asks answer x n) → AnswerFits w answer x n
  answer_fits None x n ok t b = absurd ok
  answer_fits (Some u) x n ok t b = (operand_fits w u.rate u.elem x n t.0 b.1, expr_fits w x n ok.0 t.1 b.1.1)

  -- a bound of a `foreach`
  one_for_all : (g : Rate) → Reaches g Uniform → g ≡ Uniform
  one_for_all Uniform re = refl
  one_for_all Varying re = absurd re

  bound_fits : (x : TExpr) (n : ℕ) → FineExpr w.program.functions w.function.variables x → OperandTree Uniform I32 x → ExprTree w.program.functions x → Named (bound_asks x n) → BoundParts w x n
  bound_fits x n ok o t i = (one_for_all (type_of x).rate o.reaches, o.elem, i.0.0, expr_fits w x n ok t i.1.1.1)

  bounds_fit : (rs : List TRange) (n : ℕ) → All (FineRange w.program.functions w.function.variables) rs → RangesTree w.program.functions rs → Named (bounds_asks rs n) → BoundsParts w rs n
  bounds_fit [] n ok t i = tt
  bounds_fit (r ∷ rs) n ok t i =
      let one = ok 0 r (omega arith) in
      (bound_fits r.start n one.start.0 t.0 t.1 i.0, bound_fits r.end (n + 1) one.end.0 t.2 t.3 i.1.1.0, bounds_fit rs (n + 1 + 1) (λ k d lt. ok (suc k) d (omega (arith, lt))) t.4 i.1.1.1.1)

  places_fit : (rs : List TRange) (m : ℕ) → Named (places_asks rs m) → RangesTyped w rs m
  places_fit [] m i = tt
  places_fit (r ∷ rs) m i = (record { place = i.0.1.0.0; short = i.0.1.1.1.0.0; tested = i.0.1.1.1.1.1.0.0; limited = i.0.1.1.1.1.1.1.0.0; index = i.0.0.0; run = i.0.1.1.1.1.1.1.1.0 }, places_fit rs (m + 1 + 1) i.1.1)

  ranges_constant : (rs : List TRange) → All (FineRange w.program.functions w.function.variables) rs → RangesConstant w rs
  ranges_constant [] f = tt
  ranges_constant (r ∷ rs) f = ((f 0 r (omega arith)).index, ranges_constant rs (λ k d lt. f (suc k) d (omega (arith, lt))))

  items_other : (xs : List TItem) → ItemsFree (is_fixed w.layout) xs → ItemsOther w xs
  items_other [] f = tt
  items_other (t_plain v t sp ∷ xs) f = (other_of t.rate v f.0, items_other xs f.1)
  items_other (t_with_value v t x sp ∷ xs) f = (other_of t.rate v f.0, items_other xs f.1)
  items_other (t_with_size y sp ∷ xs) f = (tt, items_other xs f.1)

  foreach_fits : (rs : List TRange) (n : ℕ) → All (FineRange w.program.functions w.function.variables) rs → 1 ≤ length rs → length rs ≤ 3 → RangesTree w.program.functions rs → Named (ranges_asks rs n) → ForeachFits w rs n
  foreach_fits rs n fine some le t i = record {
    few = le;
    measures = record { first = i.0.0.0; numbers = i.0.1.0.0; lanes = i.0.1.1.0.0; short = i.0.1.1.1.1.0.0; one = i.0.1.1.1.1.1.1.0.0 };
    bounds = bounds_fit rs (n + 1 + 1) fine t i.1.0;
    places = places_fit rs (places_slot n rs) i.1.1.0;
    some = some;
    constants = ranges_constant rs fine;
  }

  unique_fits : (v : ℕ) (u : Elem) (e : TExpr) (n : ℕ) → FineExpr w.program.functions w.function.variables e → OperandTree Varying (operand u) e → ExprTree w.program.functions e → Named (unique_asks v u e n) → UniqueFits w v u e n
  unique_fits v u e n ok o t i = record {
    operand = operand_fits w Varying (elem_of e) e n (record { elem = refl; reaches = o.reaches }) i.0;
    expr = expr_fits w e n ok t i.0.1;
    all = i.1.0.0;
    index = i.1.1.0.0;
    single = (u, i.1.1.0.1);
    one = i.1.1.1.1.0.0.0;
    each = i.1.1.1.1.0.1.0.0;
    same = i.1.1.1.1.0.1.1.1.0;
  }

  -- the parts of a `for` that may be left out
  first_fits : (o : Option TFirst) (n : ℕ) → FixedConstant w → IfAny (FineFirst w.program.functions w.function.variables) o → FirstFree (is_fixed w.layout) o → FirstTree w.program.functions o → Named (first_asks o n) → FirstFits w o n
  first_fits None n k f free t i = tt
  first_fits (Some (t_first_declare xs sp)) n k f free t i = items_fit w xs n f t i (items_other xs free)
  first_fits (Some (t_first_simple x)) n k f free t i = simple_fits w x n f t i (simple_other w k x f)

  test_fits : (o : Option TExpr) (n : ℕ) → IfAny (FineValue w.program.functions w.function.variables Truth) o → TestTree w.program.functions o → Named (test_part_asks o n) → TestFits w o n
  test_fits None n ok t i = tt
  test_fits (Some e) n ok t i = expr_fits w e n ok.0 t.0 i

  step_fits : (o : Option TSimple) (n : ℕ) → FixedConstant w → IfAny (FineSimple w.program.functions w.function.variables) o → StepTree w.program.functions o → Named (step_asks o n) → StepFits w o n
  step_fits None n k f t i = tt
  step_fits (Some x) n k f t i = simple_fits w x n f t i (simple_other w k x f)

-- a table is told of registers alone, whichever variables are known
table_same : (h : Routine) (l : Layout) (vars : List variable.Variable) (o : Option ℕ) (d : Bool) (a : Ask) → OwnTable h l vars a → OwnTable h (run_as l o d) vars a
table_same h l vars o d a f =
    all_grow (IsHeldIn h l vars) (IsHeldIn h (run_as l o d) vars) (HoldsArray vars) (HoldsArray vars) (HoldsArray vars) (HoldsArray vars) AnyMask AnyMask
    (IsLoadedIn l) (IsLoadedIn l) (λ r x t f. (named_same h l o d r x t f.0, f.1)) (λ y f. f) (λ y f. f) (λ k f. f) (λ v f. f) a f

table_knows : (h : Routine) (l : Layout) (vars : List variable.Variable) (rs : List TRange) (o : Option ℕ) (d : Bool) (a : Ask) → OwnTable h l vars a → OwnTable h (known_as l rs o d) vars a
table_knows h l vars rs o d a f =
    all_grow (IsHeldIn h (run_as l o d) vars) (IsHeldIn h (known_as l rs o d) vars) (HoldsArray vars) (HoldsArray vars) (HoldsArray vars) (HoldsArray vars) AnyMask AnyMask
    (IsLoadedIn l) (IsLoadedIn l) (λ r x t g. (named_known (known_indices (indices_of rs)) l.there (run_as l o d) h r x t g.0, g.1)) (λ y g. g) (λ y g. g) (λ k g. g) (λ v g. g) a
    (table_same h l vars o d a f)

values_fine : (w : Setting) (xs : List TExpr) → All (FineExpr w.program.functions w.function.variables) xs → AreFine w (t_exprs xs)
values_fine w [] f = tt
values_fine w (x ∷ xs) f = (f 0 x (omega arith), values_fine w xs (λ k d lt. f (suc k) d (omega (arith, lt))))

-- the last of some ranges is a constant
pub last_constant : (w : Setting) (rs : List TRange) (i : ℕ) → last_index_of rs ≡ Some i → RangesConstant w rs → slice_get w.function.variables i ≡ Some foreach_index
last_constant w [] i e f = absurd (cc)
last_constant w (r ∷ []) i e f = let same : r.index ≡ i = cc in subst (λ j. slice_get w.function.variables j ≡ Some foreach_index) same f.0
last_constant w (r ∷ q ∷ rs) i e f = last_constant w (q ∷ rs) i e f.1

-- and so is each index
pub index_constant : (w : Setting) (rs : List TRange) (v : ℕ) → RangesConstant w rs → is_index rs v ≡ true → slice_get w.function.variables v ≡ Some foreach_index
index_constant w [] v f e = absurd (cc)
index_constant w (r ∷ rs) v f e = by (nat_eq v r.index) refl e (index_constant w rs v f.1)
  where
    by : (d : Bool) → nat_eq v r.index ≡ d → (d || is_index rs v) ≡ true
        → (is_index rs v ≡ true → slice_get w.function.variables v ≡ Some foreach_index) → slice_get w.function.variables v ≡ Some foreach_index
    by true same h later = ap (slice_get w.function.variables) (eqb-true v r.index same) ∙ f.0
    by false other h later = later h

-- in the body no other variable is fixed
or_true : (b : Bool) → (b || true) ≡ true
or_true true = refl
or_true false = refl

last_fixed : (l : Layout) (rs : List TRange) → NoneFixed l → AreIndices rs (is_fixed (last_layout l rs))
last_fixed l [] none v h = absurd (let no : true ≡ false = sym h ∙ none v in cc)
last_fixed l (r ∷ []) none v h = ap (λ b. b || false) (eq-eqb v r.index (within_fixed l r.index v none h))
last_fixed l (r ∷ q ∷ rs) none v h = ap (λ b. nat_eq v r.index || b) (last_fixed l (q ∷ rs) none v h) ∙ or_true (nat_eq v r.index)

-- those that are known are indices too
known_fixed : (l : Layout) (rs : List TRange) → AreIndices rs (is_fixed l) → AreIndices rs (is_fixed (with_known (known_indices (indices_of rs)) l.there l))
known_fixed l rs bare v h = by (is_counter_of l.run v) refl h
  where
    by : (b : Bool) → is_counter_of l.run v ≡ b → (b || is_known (known_indices (indices_of rs) v)) ≡ true → is_index rs v ≡ true
    by true e h1 = bare v (ap (λ b. b || is_known (l.known v)) e)
    by false e h1 = known_index rs v h1

fixed_by_layout : (d : Bool) (l : Layout) (rs : List TRange) → NoneFixed l → AreIndices rs (is_fixed (layout_by d l rs))
fixed_by_layout false l rs none v h = last_fixed l rs none v h
fixed_by_layout true l [] none v h = absurd (let no : true ≡ false = sym h ∙ none v in cc)
fixed_by_layout true l (r ∷ rs) none v h = known_fixed (last_layout l (r ∷ rs)) (r ∷ rs) (last_fixed l (r ∷ rs) none) v h

body_fixed : (l : Layout) (rs : List TRange) → NoneFixed l → AreIndices rs (is_fixed (body_layout l rs))
body_fixed l rs none = fixed_by_layout (l.sets rs) l rs none

body_constant : (w : Setting) (rs : List TRange) (m : Mask) (b : ℕ) → NoneFixed w.layout → RangesConstant w rs → FixedConstant (with_layout w (body_layout w.layout rs) m b)
body_constant w rs m b none f v e = ap is_constant (index_constant w rs v f (body_fixed w.layout rs none v e))

mutual
  pub stmt_fits : (x : TStmt) (w : Setting) (n : ℕ) → FixedConstant w → FineStmt w.program.functions w.function.variables w.frame.answer x
      → StmtFree (is_fixed w.layout) x → StmtTree w.program.functions w.frame.answer x → Owned w (stmt_asks w.frame.answer x n) → StmtParts w x n
  stmt_fits (t_block b) w n k f free t i = block_fits b w n k f free t i
  stmt_fits (t_declare xs sp) w n k f free t i = items_fit w xs n f t i (items_other w xs free)
  stmt_fits (t_simple x sp) w n k f free t i = simple_fits w x n f t i (simple_other w k x f)
  stmt_fits (t_if g j e x sp) w n k f free t i = (expr_fits w e n f.1.0 t.0 i.0, stmt_fits x w (part_slot g (type_of e).rate n) k f.2 free t.1 i.1.1)
  stmt_fits (t_if_else g j e x y sp) w n k f free t i =
      (expr_fits w e n f.1.0 t.0 i.0, stmt_fits x w (parts_slot (type_of e).rate n) k f.2 free.0 t.1 i.1.1.0, stmt_fits y w (parts_slot (type_of e).rate n) k f.3 free.1 t.2 i.1.1.1)
  stmt_fits (t_while g j e x sp) w n k f free t i = (expr_fits w e (n + 3) f.1.0 t.0.0 i.1.0, stmt_fits x w (n + 3) k f.2 free t.1 i.1.1)
  stmt_fits (t_do g j x e sp) w n k f free t i = (expr_fits w e (n + 3) f.2.0 t.0.0 i.1.1, stmt_fits x w (n + 3) k f.1 free t.1 i.1.0)
  stmt_fits (t_for g j first e step z x sp) w n k f free t i =
      (first_fits w first n k f.2 free.0 t.0 i.0, test_fits w e (n + 3) f.3 t.1 i.1.1.0, step_fits w step (n + 3) k f.4 t.2 i.1.1.1.0, stmt_fits x w (n + 3) k f.5 free.1 t.3 i.1.1.1.1)
  stmt_fits (t_foreach g j rs x sp) w n k f free t i =
      let fits = foreach_fits w rs n f.1 t.3 t.0 t.1 i.0 in (
        fits,
        free.0,
        λ m b. stmt_fits x (with_layout w (body_layout w.layout rs) m b) (runs_slot n rs + 3) (body_constant w rs m b free.0 fits.constants) f.2
            (free.1 (is_fixed (body_layout w.layout rs)) (body_fixed w.layout rs free.0)) t.2
            (body_as (λ l. OwnTable w.routine l w.function.variables (stmt_asks w.frame.answer x (runs_slot n rs + 3))) w.layout rs i.1
            (λ o d. table_same w.routine w.layout w.function.variables o d (stmt_asks w.frame.answer x (runs_slot n rs + 3)) i.1)
            (λ e o d. table_knows w.routine w.layout w.function.variables rs o d (stmt_asks w.frame.answer x (runs_slot n rs + 3)) i.1)),
      )
  stmt_fits (t_foreach_active g j z x sp) w n k f free t i = ((I64, i.0.0.1), stmt_fits x w (n + 1 + 3) k f.2 free t i.1)
  stmt_fits (t_foreach_unique g j z u e x sp) w n k f free t i = (unique_fits w z u e n f.2.0 t.0 t.1 i.0, stmt_fits x w (n + 1 + 3) k f.3 free t.2 i.1)
  stmt_fits (t_unmasked g b sp) w n k f free t i =
      block_fits b (with_layout w (outside w.layout) w.members w.start) (n + 3) k f free t (table_same w.routine w.layout w.function.variables w.layout.run false (block_asks w.frame.answer b (n + 3)) i.1)
  stmt_fits (t_jump j g sp) w n k f free t i = tt
  stmt_fits (t_return g None sp) w n k f free t i = tt
  stmt_fits (t_return g (Some x) sp) w n k f free t i = answer_fits w w.frame.answer x n f t i
  stmt_fits (t_print g text xs sp) w n k f free t i = (t.0, values_fit w (own_rates xs) (t_exprs xs) n (values_fine w xs f.1) t.1 i)
  stmt_fits (t_assert x c sp) w n k f free t i = expr_fits w x n f.0.0 t.0 i.0

  pub block_fits : (b : TBlock) (w : Setting) (n : ℕ) → FixedConstant w → FineBlock w.program.functions w.function.variables w.frame.answer b
      → BlockFree (is_fixed w.layout) b → BlockTree w.program.functions w.frame.answer b → Owned w (block_asks w.frame.answer b n) → BlockParts w b n
  block_fits (t_braces xs sp) w n k f free t i = stmts_fit xs w n k f free t i

  pub stmts_fit : (xs : TStmts) (w : Setting) (n : ℕ) → FixedConstant w → FineStmts w.program.functions w.function.variables w.frame.answer xs
      → StmtsFree (is_fixed w.layout) xs → StmtsTree w.program.functions w.frame.answer xs → Owned w (stmts_asks w.frame.answer xs n) → StmtsParts w xs n
  stmts_fit t_no_stmts w n k f free t i = tt
  stmts_fit (t_stmt_then x xs) w n k f free t i = (stmt_fits x w n k f.0 free.0 t.0 i.0, stmts_fit xs w n k f.1 free.1 t.1 i.1)

module _ (w : Setting) where
  pub stmt_parts : (x : TStmt) (n : ℕ) → FixedConstant w → StmtFits w x n → StmtParts w x n
  stmt_parts x n k fit =
      stmt_fits x w n k fit.fine fit.free (stmt_tree w.program.functions w.function.variables w.frame.answer x fit.fine fit.rated)
      (owned w w.frame.answer (stmt_asks w.frame.answer x n) (stmt_own w.program.functions w.function.variables w.frame.answer x n fit.fine) fit.named)

  pub block_parts : (b : TBlock) (n : ℕ) → FixedConstant w → BlockFits w b n → BlockParts w b n
  block_parts b n k fit =
      block_fits b w n k fit.fine fit.free (block_tree w.program.functions w.function.variables w.frame.answer b fit.fine fit.rated)
      (owned w w.frame.answer (block_asks w.frame.answer b n) (block_own w.program.functions w.function.variables w.frame.answer b n fit.fine) fit.named)
