-- The fault of a node is the first of its breaches.
use Rattle.std.proofs.Common.{◌≡◌, sym, subst}
use Rattle.std.specs.Prelude.{List, [], ◌∷◌, not, Option}
use Rattle.isp_base.specs.declared.types.Rate.{Rate}
use Rattle.isp_base.specs.declared.types.Rate.TheVariants.{Uniform}
use Rattle.isp_base.specs.declared.types.Span.{Span}
use Rattle.isp_base.specs.declared.types.Ty.{Ty}
use Rattle.isp_lex.specs.declared.fault.Fault.{Fault}
use Rattle.isp_lex.specs.declared.fault.Rule.TheVariants.{VaryingToUniform, BadExit, NestedForeach, BadExport}
use Rattle.isp_lex.specs.Faults.{fault}
use Rattle.isp_typed.specs.declared.library.Part.{Part}
use Rattle.isp_typed.specs.declared.variable.Variable.{Variable}
use Rattle.isp_typed.specs.Library.{parts}
use Rattle.isp_typed.specs.Typed.{TExpr, t_constant, t_program_index, t_place, t_convert, t_cast, t_unary, t_binary, t_compare, t_logic, t_choose, t_call, t_library, t_packed_store, t_packed_load, place_type}
use Rattle.isp_typed.specs.Typed.{TPlace, t_variable, t_element, TBase, t_whole, t_from, TArgument, t_by_value, t_by_name, TCall, t_called, TArguments, t_no_arguments, t_argument_then, TExprs, t_no_exprs, t_expr_then, TFunction, Program}
use Rattle.isp_typed.specs.Typed.{TItem, t_plain, t_with_value, t_with_size, TSimple, t_value, t_run, t_assign, t_update, t_step, TFirst, t_first_declare, t_first_simple, TRange}
use Rattle.isp_typed.specs.Typed.{TStmt, t_block, t_declare, t_simple, t_if, t_if_else, t_while, t_do, t_for, t_foreach, t_foreach_active, t_foreach_unique}
use Rattle.isp_typed.specs.Typed.{t_unmasked, t_jump, t_return, t_print, t_assert, TBlock, t_braces, TStmts, t_no_stmts, t_stmt_then}
use Rattle.isp_rates.specs.declared.exits.Within.{Within}
use Rattle.isp_rates.specs.Breaches.{OfEach, Least}
use Rattle.isp_rates.specs.Rates.{goes_to, rate_held, variables_of, next_rate, later, next_part, RateBreach, DemandBreach, ExprBreach, PlaceBreach, BaseBreach, ArgumentBreach, CallBreach, ArgumentsBreach, ValuesBreach}
use Rattle.isp_rates.specs.Exits.{at_start, in_loop, in_foreach, in_turns, in_unmasked, may_jump, returned_rate, ItemBreach, SimpleBreach, FirstBreach, RangeBreach, ReturnBreach, StmtBreach, BlockBreach, StmtsBreach}
use Rattle.isp_rates.specs.Program.{ParametersBreach, ResultBreach, ExportBreach, FunctionBreach, ProgramBreach}
use Rattle.isp_rates.specs.reader.Faults.{of_each, mismatch, expr_fault, place_fault, base_fault, argument_fault, call_fault, arguments_fault, values_fault, demand_fault}
use Rattle.isp_rates.specs.reader.Faults.{item_fault, simple_fault, first_fault, range_fault, return_fault, stmt_fault, block_fault, stmts_fault}
use Rattle.isp_rates.specs.reader.Faults.{parameters_fault, result_fault, export_fault, function_fault, program_fault}
use Rattle.isp_rates.proofs.Least.{none_least, unmet_least, either_least, demand_least, any_least, each_least, exported_least}

rate_least : (wanted given : Rate) (s : Span) → Least (mismatch wanted given s) (RateBreach wanted given s)
rate_least wanted given s = unmet_least (goes_to wanted given) (fault VaryingToUniform s)

module _ (fs : List TFunction) where
  mutual
    expr_least : (x : TExpr) → Least (expr_fault fs x) (ExprBreach fs x)
    expr_least (t_constant v s) = none_least
    expr_least (t_program_index s) = none_least
    expr_least (t_place p) = place_least p
    expr_least (t_convert e x) = expr_least x
    expr_least (t_cast x t s) = demand_least t.rate x _ _ (expr_least x)
    expr_least (t_unary op x t s) = expr_least x
    expr_least (t_binary op x y t s) = either_least _ _ _ _ (expr_least x) (expr_least y)
    expr_least (t_compare c x y r s) = either_least _ _ _ _ (expr_least x) (expr_least y)
    expr_least (t_logic l x y r s) = either_least _ _ _ _ (expr_least x) (expr_least y)
    expr_least (t_choose c x y t s) = either_least _ _ _ _ (expr_least c) (either_least _ _ _ _ (expr_least x) (expr_least y))
    expr_least (t_call c t) = call_least c
    expr_least (t_library g e xs t s) = values_least (parts g) xs
    expr_least (t_packed_store b x s) = either_least _ _ _ _ (base_least b) (expr_least x)
    expr_least (t_packed_load b v s) = base_least b

    place_least : (p : TPlace) → Least (place_fault fs p) (PlaceBreach fs p)
    place_least (t_variable v t s) = none_least
    place_least (t_element a x t s) = expr_least x

    base_least : (b : TBase) → Least (base_fault fs b) (BaseBreach fs b)
    base_least (t_whole a s) = rate_least Uniform a.ty.rate s
    base_least (t_from a x s) = either_least _ _ _ _ (rate_least Uniform a.ty.rate s) (demand_least Uniform x _ _ (expr_least x))

    argument_least : (wanted : Rate) (x : TArgument) → Least (argument_fault fs wanted x) (ArgumentBreach fs wanted x)
    argument_least wanted (t_by_value x) = demand_least wanted x _ _ (expr_least x)
    argument_least wanted (t_by_name a s) = rate_least wanted a.ty.rate s

    call_least : (c : TCall) → Least (call_fault fs c) (CallBreach fs c)
    call_least (t_called g xs s) = arguments_least (variables_of fs g) xs

    arguments_least : (vs : List Variable) (xs : TArguments) → Least (arguments_fault fs vs xs) (ArgumentsBreach fs vs xs)
    arguments_least vs t_no_arguments = none_least
    arguments_least vs (t_argument_then x xs) = either_least _ _ _ _ (argument_least (next_rate vs) x) (arguments_least (later vs) xs)

    values_least : (ps : List Part) (xs : TExprs) → Least (values_fault fs ps xs) (ValuesBreach fs ps xs)
    values_least ps t_no_exprs = none_least
    values_least ps (t_expr_then x xs) = either_least _ _ _ _ (demand_least (next_part ps) x _ _ (expr_least x)) (values_least (later ps) xs)

  demanded_least : (wanted : Rate) (x : TExpr) → Least (demand_fault fs wanted x) (DemandBreach wanted x (ExprBreach fs x))
  demanded_least wanted x = demand_least wanted x _ _ (expr_least x)

  item_least : (i : TItem) → Least (item_fault fs i) (ItemBreach fs i)
  item_least (t_plain v t s) = none_least
  item_least (t_with_value v t x s) = demanded_least t.rate x
  item_least (t_with_size a s) = none_least

  simple_least : (p : TSimple) → Least (simple_fault fs p) (SimpleBreach fs p)
  simple_least (t_value x) = expr_least x
  simple_least (t_run c) = call_least c
  simple_least (t_assign p x s) = either_least _ _ _ _ (place_least p) (demanded_least (place_type p).rate x)
  simple_least (t_update op e p x s) = either_least _ _ _ _ (place_least p) (demanded_least (place_type p).rate x)
  simple_least (t_step op e p s) = place_least p

  items_least : (is : List TItem) → Least (of_each (item_fault fs) is) (OfEach (ItemBreach fs) is)
  items_least = each_least (item_fault fs) (ItemBreach fs) item_least

  first_least : (i : TFirst) → Least (first_fault fs i) (FirstBreach fs i)
  first_least (t_first_declare is s) = items_least is
  first_least (t_first_simple p) = simple_least p

  range_least : (r : TRange) → Least (range_fault fs r) (RangeBreach fs r)
  range_least r = either_least _ _ _ _ (demanded_least Uniform r.start) (demanded_least Uniform r.end)

  module _ (answer : Option Ty) where
    return_least : (x : TExpr) → Least (return_fault fs answer x) (ReturnBreach fs answer x)
    return_least x = demanded_least (returned_rate answer) x

    mutual
      stmt_least : (w : Within) (s : TStmt) → Least (stmt_fault fs answer w s) (StmtBreach fs answer w s)
      stmt_least w (t_block b) = block_least w b
      stmt_least w (t_declare is s) = items_least is
      stmt_least w (t_simple p s) = simple_least p
      stmt_least w (t_if c n x a s) = either_least _ _ _ _ (expr_least x) (stmt_least w a)
      stmt_least w (t_if_else c n x a b s) = either_least _ _ _ _ (expr_least x) (either_least _ _ _ _ (stmt_least w a) (stmt_least w b))
      stmt_least w (t_while c n x a s) = either_least _ _ _ _ (expr_least x) (stmt_least (in_loop w) a)
      stmt_least w (t_do c n a x s) = either_least _ _ _ _ (stmt_least (in_loop w) a) (expr_least x)
      stmt_least w (t_for c n i x p m a s) =
          either_least _ _ _ _ (any_least (first_fault fs) (FirstBreach fs) first_least i)
          (either_least _ _ _ _ (any_least (expr_fault fs) (ExprBreach fs) expr_least x)
          (either_least _ _ _ _ (any_least (simple_fault fs) (SimpleBreach fs) simple_least p) (stmt_least (in_loop w) a)))
      stmt_least w (t_foreach k n rs a s) =
          either_least _ _ _ _ (unmet_least (not w.in_foreach) (fault NestedForeach k))
          (either_least _ _ _ _ (each_least (range_fault fs) (RangeBreach fs) range_least rs) (stmt_least (in_foreach w) a))
      stmt_least w (t_foreach_active k n i a s) = stmt_least (in_turns w) a
      stmt_least w (t_foreach_unique k n i e x a s) = either_least _ _ _ _ (expr_least x) (stmt_least (in_turns w) a)
      stmt_least w (t_unmasked k b s) = block_least (in_unmasked w) b
      stmt_least w (t_jump j k s) = unmet_least (may_jump j w.nearest) (fault BadExit k)
      stmt_least w (t_return k x s) = either_least _ _ _ _ (unmet_least w.returns (fault BadExit k)) (any_least (return_fault fs answer) (ReturnBreach fs answer) return_least x)
      stmt_least w (t_print k t xs s) = each_least (expr_fault fs) (ExprBreach fs) expr_least xs
      stmt_least w (t_assert x c s) = expr_least x

      block_least : (w : Within) (b : TBlock) → Least (block_fault fs answer w b) (BlockBreach fs answer w b)
      block_least w (t_braces ss s) = stmts_least w ss

      stmts_least : (w : Within) (ss : TStmts) → Least (stmts_fault fs answer w ss) (StmtsBreach fs answer w ss)
      stmts_least w t_no_stmts = none_least
      stmts_least w (t_stmt_then s ss) = either_least _ _ _ _ (stmt_least w s) (stmts_least w ss)

parameters_least : (ss : List Span) (vs : List Variable) → Least (parameters_fault ss vs) (ParametersBreach ss vs)
parameters_least [] vs = none_least
parameters_least (s ∷ ss) [] = none_least
parameters_least (s ∷ ss) (v ∷ vs) = either_least _ _ _ _ (unmet_least (goes_to Uniform (rate_held v.holds)) (fault BadExport s)) (parameters_least ss vs)

result_least : (s : Span) (t : Ty) → Least (result_fault s t) (ResultBreach s t)
result_least s t = unmet_least (goes_to Uniform t.rate) (fault BadExport s)

export_least : (g : TFunction) → Least (export_fault g) (ExportBreach g)
export_least g = exported_least g.exported _ _ (either_least _ _ _ _ (parameters_least g.params g.variables) (any_least (result_fault g.span) (ResultBreach g.span) (result_least g.span) g.answer))

function_least : (fs : List TFunction) (g : TFunction) → Least (function_fault fs g) (FunctionBreach fs g)
function_least fs g = either_least _ _ _ _ (export_least g) (block_least fs g.answer at_start g.body)

-- the fault of a program is the first of its breaches
pub program_least : (p : Program) → Least (program_fault p) (ProgramBreach p)
program_least p = each_least (function_fault p.functions) (FunctionBreach p.functions) (function_least p.functions) p.functions

pub answered : (o : Option Fault) (p : Program) → o ≡ program_fault p → Least o (ProgramBreach p)
answered o p e = subst (λ (z : Option Fault). Least z (ProgramBreach p)) (sym e) (program_least p)
