-- The faults of a node are its breaches.
use Rattle.std.proofs.Common.{◌≡◌, ◌++◌, ap, sym, subst, ◌∙◌}
use Rattle.std.specs.Prelude.{List, [], ◌∷◌, not, Option}
use Rattle.isp_base.specs.declared.types.Rate.{Rate}
use Rattle.isp_base.specs.declared.types.Rate.TheVariants.{Uniform}
use Rattle.isp_base.specs.declared.types.Span.{Span}
use Rattle.isp_base.specs.declared.types.Ty.{Ty}
use Rattle.isp_lex.specs.declared.fault.Fault.{Fault}
use Rattle.isp_lex.specs.declared.fault.Rule.TheVariants.{VaryingToUniform, BadExit, NestedForeach, BadExport}
use Rattle.isp_lex.specs.Faults.{fault}
use Rattle.isp_typed.specs.declared.function.Program as rust
use Rattle.isp_typed.specs.declared.function.TypedFunction.{TypedFunction}
use Rattle.isp_typed.specs.declared.library.Part.{Part}
use Rattle.isp_typed.specs.declared.variable.Variable.{Variable}
use Rattle.isp_typed.specs.Library.{parts}
use Rattle.isp_typed.specs.Typed.{TExpr, t_constant, t_program_index, t_place, t_convert, t_cast, t_unary, t_binary, t_compare, t_logic, t_choose, t_call, t_library, t_packed_store, t_packed_load, place_type}
use Rattle.isp_typed.specs.Typed.{TPlace, t_variable, t_element, TBase, t_whole, t_from, TArgument, t_by_value, t_by_name, TCall, t_called, TArguments, t_no_arguments, t_argument_then, TExprs, t_no_exprs, t_expr_then, TFunction, Program}
use Rattle.isp_typed.specs.Typed.{TItem, t_plain, t_with_value, t_with_size, TSimple, t_value, t_run, t_assign, t_update, t_step, TFirst, t_first_declare, t_first_simple, TRange}
use Rattle.isp_typed.specs.Typed.{TStmt, t_block, t_declare, t_simple, t_if, t_if_else, t_while, t_do, t_for, t_foreach, t_foreach_active, t_foreach_unique}
use Rattle.isp_typed.specs.Typed.{t_unmasked, t_jump, t_return, t_print, t_assert, TBlock, t_braces, TStmts, t_no_stmts, t_stmt_then}
use Rattle.isp_typed.specs.Views.{functions_of, program_of}
use Rattle.isp_rates.specs.declared.exits.Within.{Within}
use Rattle.isp_rates.specs.Breaches.{OfEach}
use Rattle.isp_rates.specs.Rates.{goes_to, rate_held, variables_of, next_rate, later, next_part, RateBreach, DemandBreach, ExprBreach, PlaceBreach, BaseBreach, ArgumentBreach, CallBreach, ArgumentsBreach, ValuesBreach}
use Rattle.isp_rates.specs.Exits.{at_start, in_loop, in_foreach, in_turns, in_unmasked, may_jump, returned_rate, ItemBreach, SimpleBreach, FirstBreach, RangeBreach, ReturnBreach, StmtBreach, BlockBreach, StmtsBreach}
use Rattle.isp_rates.specs.Program.{ParametersBreach, ResultBreach, ExportBreach, FunctionBreach, ProgramBreach}
use Rattle.isp_breaches.specs.reader.Lists.{of_each, mismatch, expr_faults, place_faults, base_faults, argument_faults, call_faults, arguments_faults, values_faults, demand_faults}
use Rattle.isp_breaches.specs.reader.Lists.{item_faults, simple_faults, first_faults, range_faults, return_faults, stmt_faults, block_faults, stmts_faults}
use Rattle.isp_breaches.specs.reader.Lists.{parameters_faults, result_faults, export_faults, function_faults, program_faults}
use Rattle.isp_breaches.proofs.Listed.{Lists, none_lists, unmet_lists, either_lists, demand_lists, any_lists, each_lists, exported_lists}

rate_lists : (wanted given : Rate) (s : Span) → Lists (mismatch wanted given s) (RateBreach wanted given s)
rate_lists wanted given s = unmet_lists (goes_to wanted given) (fault VaryingToUniform s)

module _ (fs : List TFunction) where
  mutual
    expr_lists : (x : TExpr) → Lists (expr_faults fs x) (ExprBreach fs x)
    expr_lists (t_constant v s) = none_lists
    expr_lists (t_program_index s) = none_lists
    expr_lists (t_place p) = place_lists p
    expr_lists (t_convert e x) = expr_lists x
    expr_lists (t_cast x t s) = demand_lists t.rate x _ _ (expr_lists x)
    expr_lists (t_unary op x t s) = expr_lists x
    expr_lists (t_binary op x y t s) = either_lists _ _ _ _ (expr_lists x) (expr_lists y)
    expr_lists (t_compare c x y r s) = either_lists _ _ _ _ (expr_lists x) (expr_lists y)
    expr_lists (t_logic l x y r s) = either_lists _ _ _ _ (expr_lists x) (expr_lists y)
    expr_lists (t_choose c x y t s) = either_lists _ _ _ _ (expr_lists c) (either_lists _ _ _ _ (expr_lists x) (expr_lists y))
    expr_lists (t_call c t) = call_lists c
    expr_lists (t_library g e xs t s) = values_lists (parts g) xs
    expr_lists (t_packed_store b x s) = either_lists _ _ _ _ (base_lists b) (expr_lists x)
    expr_lists (t_packed_load b v s) = base_lists b

    place_lists : (p : TPlace) → Lists (place_faults fs p) (PlaceBreach fs p)
    place_lists (t_variable v t s) = none_lists
    place_lists (t_element a x t s) = expr_lists x

    base_lists : (b : TBase) → Lists (base_faults fs b) (BaseBreach fs b)
    base_lists (t_whole a s) = rate_lists Uniform a.ty.rate s
    base_lists (t_from a x s) = either_lists _ _ _ _ (rate_lists Uniform a.ty.rate s) (demand_lists Uniform x _ _ (expr_lists x))

    argument_lists : (wanted : Rate) (x : TArgument) → Lists (argument_faults fs wanted x) (ArgumentBreach fs wanted x)
    argument_lists wanted (t_by_value x) = demand_lists wanted x _ _ (expr_lists x)
    argument_lists wanted (t_by_name a s) = rate_lists wanted a.ty.rate s

    call_lists : (c : TCall) → Lists (call_faults fs c) (CallBreach fs c)
    call_lists (t_called g xs s) = arguments_lists (variables_of fs g) xs

    arguments_lists : (vs : List Variable) (xs : TArguments) → Lists (arguments_faults fs vs xs) (ArgumentsBreach fs vs xs)
    arguments_lists vs t_no_arguments = none_lists
    arguments_lists vs (t_argument_then x xs) = either_lists _ _ _ _ (argument_lists (next_rate vs) x) (arguments_lists (later vs) xs)

    values_lists : (ps : List Part) (xs : TExprs) → Lists (values_faults fs ps xs) (ValuesBreach fs ps xs)
    values_lists ps t_no_exprs = none_lists
    values_lists ps (t_expr_then x xs) = either_lists _ _ _ _ (demand_lists (next_part ps) x _ _ (expr_lists x)) (values_lists (later ps) xs)

  demanded_lists : (wanted : Rate) (x : TExpr) → Lists (demand_faults fs wanted x) (DemandBreach wanted x (ExprBreach fs x))
  demanded_lists wanted x = demand_lists wanted x _ _ (expr_lists x)

  item_lists : (i : TItem) → Lists (item_faults fs i) (ItemBreach fs i)
  item_lists (t_plain v t s) = none_lists
  item_lists (t_with_value v t x s) = demanded_lists t.rate x
  item_lists (t_with_size a s) = none_lists

  simple_lists : (p : TSimple) → Lists (simple_faults fs p) (SimpleBreach fs p)
  simple_lists (t_value x) = expr_lists x
  simple_lists (t_run c) = call_lists c
  simple_lists (t_assign p x s) = either_lists _ _ _ _ (place_lists p) (demanded_lists (place_type p).rate x)
  simple_lists (t_update op e p x s) = either_lists _ _ _ _ (place_lists p) (demanded_lists (place_type p).rate x)
  simple_lists (t_step op e p s) = place_lists p

  items_lists : (is : List TItem) → Lists (of_each (item_faults fs) is) (OfEach (ItemBreach fs) is)
  items_lists = each_lists (item_faults fs) (ItemBreach fs) item_lists

  first_lists : (i : TFirst) → Lists (first_faults fs i) (FirstBreach fs i)
  first_lists (t_first_declare is s) = items_lists is
  first_lists (t_first_simple p) = simple_lists p

  range_lists : (r : TRange) → Lists (range_faults fs r) (RangeBreach fs r)
  range_lists r = either_lists _ _ _ _ (demanded_lists Uniform r.start) (demanded_lists Uniform r.end)

  module _ (answer : Option Ty) where
    return_lists : (x : TExpr) → Lists (return_faults fs answer x) (ReturnBreach fs answer x)
    return_lists x = demanded_lists (returned_rate answer) x

    mutual
      stmt_lists : (w : Within) (s : TStmt) → Lists (stmt_faults fs answer w s) (StmtBreach fs answer w s)
      stmt_lists w (t_block b) = block_lists w b
      stmt_lists w (t_declare is s) = items_lists is
      stmt_lists w (t_simple p s) = simple_lists p
      stmt_lists w (t_if c n x a s) = either_lists _ _ _ _ (expr_lists x) (stmt_lists w a)
      stmt_lists w (t_if_else c n x a b s) = either_lists _ _ _ _ (expr_lists x) (either_lists _ _ _ _ (stmt_lists w a) (stmt_lists w b))
      stmt_lists w (t_while c n x a s) = either_lists _ _ _ _ (expr_lists x) (stmt_lists (in_loop w) a)
      stmt_lists w (t_do c n a x s) = either_lists _ _ _ _ (stmt_lists (in_loop w) a) (expr_lists x)
      stmt_lists w (t_for c n i x p m a s) =
          either_lists _ _ _ _ (any_lists (first_faults fs) (FirstBreach fs) first_lists i)
          (either_lists _ _ _ _ (any_lists (expr_faults fs) (ExprBreach fs) expr_lists x)
          (either_lists _ _ _ _ (any_lists (simple_faults fs) (SimpleBreach fs) simple_lists p) (stmt_lists (in_loop w) a)))
      stmt_lists w (t_foreach k n rs a s) =
          either_lists _ _ _ _ (unmet_lists (not w.in_foreach) (fault NestedForeach k))
          (either_lists _ _ _ _ (each_lists (range_faults fs) (RangeBreach fs) range_lists rs) (stmt_lists (in_foreach w) a))
      stmt_lists w (t_foreach_active k n i a s) = stmt_lists (in_turns w) a
      stmt_lists w (t_foreach_unique k n i e x a s) = either_lists _ _ _ _ (expr_lists x) (stmt_lists (in_turns w) a)
      stmt_lists w (t_unmasked k b s) = block_lists (in_unmasked w) b
      stmt_lists w (t_jump j k s) = unmet_lists (may_jump j w.nearest) (fault BadExit k)
      stmt_lists w (t_return k x s) = either_lists _ _ _ _ (unmet_lists w.returns (fault BadExit k)) (any_lists (return_faults fs answer) (ReturnBreach fs answer) return_lists x)
      stmt_lists w (t_print k t xs s) = each_lists (expr_faults fs) (ExprBreach fs) expr_lists xs
      stmt_lists w (t_assert x c s) = expr_lists x

      block_lists : (w : Within) (b : TBlock) → Lists (block_faults fs answer w b) (BlockBreach fs answer w b)
      block_lists w (t_braces ss s) = stmts_lists w ss

      stmts_lists : (w : Within) (ss : TStmts) → Lists (stmts_faults fs answer w ss) (StmtsBreach fs answer w ss)
      stmts_lists w t_no_stmts = none_lists
      stmts_lists w (t_stmt_then s ss) = either_lists _ _ _ _ (stmt_lists w s) (stmts_lists w ss)

parameters_lists : (ss : List Span) (vs : List Variable) → Lists (parameters_faults ss vs) (ParametersBreach ss vs)
parameters_lists [] vs = none_lists
parameters_lists (s ∷ ss) [] = none_lists
parameters_lists (s ∷ ss) (v ∷ vs) = either_lists _ _ _ _ (unmet_lists (goes_to Uniform (rate_held v.holds)) (fault BadExport s)) (parameters_lists ss vs)

result_lists : (s : Span) (t : Ty) → Lists (result_faults s t) (ResultBreach s t)
result_lists s t = unmet_lists (goes_to Uniform t.rate) (fault BadExport s)

export_lists : (g : TFunction) → Lists (export_faults g) (ExportBreach g)
export_lists g = exported_lists g.exported _ _ (either_lists _ _ _ _ (parameters_lists g.params g.variables) (any_lists (result_faults g.span) (ResultBreach g.span) (result_lists g.span) g.answer))

function_lists : (fs : List TFunction) (g : TFunction) → Lists (function_faults fs g) (FunctionBreach fs g)
function_lists fs g = either_lists _ _ _ _ (export_lists g) (block_lists fs g.answer at_start g.body)

-- the faults of a program are its breaches
pub program_lists : (p : Program) → Lists (program_faults p) (ProgramBreach p)
program_lists p = each_lists (function_faults p.functions) (FunctionBreach p.functions) (function_lists p.functions) p.functions

-- the same of what is gathered by a walk over the functions of the code
pub walked_lists : (p : rust.Program) (all : List TypedFunction) (old xs : List Fault) → old ≡ [] → all ≡ p.functions.items → xs ≡ old ++ of_each (function_faults (functions_of all)) (functions_of all)
    → Lists xs (ProgramBreach (program_of p))
walked_lists p all old xs none same walked =
    subst (λ (z : List Fault). Lists z (ProgramBreach (program_of p)))
    (sym (walked ∙ (ap (λ (z : List Fault). z ++ of_each (function_faults (functions_of all)) (functions_of all)) none ∙ ap (λ (z : List TypedFunction). of_each (function_faults (functions_of z)) (functions_of z)) same)))
    (program_lists (program_of p))
