-- The faults of a node, in the order in which the code meets them.
use Rattle.std.specs.Prelude.{List, [], ◌∷◌, ◌++◌, Bool, true, false, not, Option, Some, None}
use Rattle.isp_base.specs.declared.types.Rate.{Rate}
use Rattle.isp_base.specs.declared.types.Rate.TheVariants.{Uniform}
use Rattle.isp_base.specs.declared.types.Span.{Span}
use Rattle.isp_base.specs.declared.types.Ty.{Ty}
use Rattle.isp_lex.specs.declared.fault.Fault.{Fault}
use Rattle.isp_lex.specs.declared.fault.Rule.TheVariants.{VaryingToUniform, BadExit, NestedForeach, BadExport}
use Rattle.isp_lex.specs.Faults.{fault}
use Rattle.isp_typed.specs.declared.library.Part.{Part}
use Rattle.isp_typed.specs.declared.variable.Variable.{Variable}
use Rattle.isp_typed.specs.Library.{parts}
use Rattle.isp_typed.specs.Typed.{TExpr, t_constant, t_program_index, t_place, t_convert, t_cast, t_unary, t_binary, t_compare, t_logic, t_choose, t_call, t_library, t_packed_store, t_packed_load, type_of, span_of, place_type}
use Rattle.isp_typed.specs.Typed.{TPlace, t_variable, t_element, TBase, t_whole, t_from, TArgument, t_by_value, t_by_name, TCall, t_called, TArguments, t_no_arguments, t_argument_then, TExprs, t_no_exprs, t_expr_then, TFunction, Program}
use Rattle.isp_typed.specs.Typed.{TItem, t_plain, t_with_value, t_with_size, TSimple, t_value, t_run, t_assign, t_update, t_step, TFirst, t_first_declare, t_first_simple, TRange}
use Rattle.isp_typed.specs.Typed.{TStmt, t_block, t_declare, t_simple, t_if, t_if_else, t_while, t_do, t_for, t_foreach, t_foreach_active, t_foreach_unique}
use Rattle.isp_typed.specs.Typed.{t_unmasked, t_jump, t_return, t_print, t_assert, TBlock, t_braces, TStmts, t_no_stmts, t_stmt_then}
use Rattle.isp_rates.specs.declared.exits.Within.{Within}
use Rattle.isp_rates.specs.Rates.{goes_to, rate_held, variables_of, next_rate, later, next_part}
use Rattle.isp_rates.specs.Exits.{at_start, in_loop, in_foreach, in_turns, in_unmasked, may_jump, returned_rate}

-- of a test that has to hold, of what may be left out, and of several
abbrev pub unmet : Bool → Fault → List Fault
unmet true f = []
unmet false f = f ∷ []

abbrev pub of_any : {A : Type 0} → (A → List Fault) → Option A → List Fault
of_any g None = []
of_any g (Some a) = g a

abbrev pub of_each : {A : Type 0} → (A → List Fault) → List A → List Fault
of_each g [] = []
of_each g (a ∷ rest) = g a ++ of_each g rest

-- a value of one rate where another is wanted
abbrev pub mismatch : Rate → Rate → Span → List Fault
mismatch wanted given s = unmet (goes_to wanted given) (fault VaryingToUniform s)

-- where an expression has no fault, that of the demand on it
abbrev pub demand : Rate → TExpr → List Fault → List Fault
demand wanted x [] = mismatch wanted (type_of x).rate (span_of x)
demand wanted x (f ∷ more) = f ∷ more

module _ (fs : List TFunction) where
  abbrev mutual
    pub expr_faults : TExpr → List Fault
    expr_faults (t_constant v s) = []
    expr_faults (t_program_index s) = []
    expr_faults (t_place p) = place_faults p
    expr_faults (t_convert e x) = expr_faults x
    expr_faults (t_cast x t s) = demand t.rate x (expr_faults x)
    expr_faults (t_unary op x t s) = expr_faults x
    expr_faults (t_binary op x y t s) = expr_faults x ++ expr_faults y
    expr_faults (t_compare c x y r s) = expr_faults x ++ expr_faults y
    expr_faults (t_logic l x y r s) = expr_faults x ++ expr_faults y
    expr_faults (t_choose c x y t s) = expr_faults c ++ (expr_faults x ++ expr_faults y)
    expr_faults (t_call c t) = call_faults c
    expr_faults (t_library g e xs t s) = values_faults (parts g) xs
    expr_faults (t_packed_store b x s) = base_faults b ++ expr_faults x
    expr_faults (t_packed_load b v s) = base_faults b

    pub place_faults : TPlace → List Fault
    place_faults (t_variable v t s) = []
    place_faults (t_element a x t s) = expr_faults x

    pub base_faults : TBase → List Fault
    base_faults (t_whole a s) = mismatch Uniform a.ty.rate s
    base_faults (t_from a x s) = mismatch Uniform a.ty.rate s ++ demand Uniform x (expr_faults x)

    pub argument_faults : Rate → TArgument → List Fault
    argument_faults wanted (t_by_value x) = demand wanted x (expr_faults x)
    argument_faults wanted (t_by_name a s) = mismatch wanted a.ty.rate s

    pub call_faults : TCall → List Fault
    call_faults (t_called g xs s) = arguments_faults (variables_of fs g) xs

    pub arguments_faults : List Variable → TArguments → List Fault
    arguments_faults vs t_no_arguments = []
    arguments_faults vs (t_argument_then x xs) = argument_faults (next_rate vs) x ++ arguments_faults (later vs) xs

    pub values_faults : List Part → TExprs → List Fault
    values_faults ps t_no_exprs = []
    values_faults ps (t_expr_then x xs) = demand (next_part ps) x (expr_faults x) ++ values_faults (later ps) xs

  abbrev pub demand_faults : Rate → TExpr → List Fault
  demand_faults wanted x = demand wanted x (expr_faults x)

  abbrev pub item_faults : TItem → List Fault
  item_faults (t_plain v t s) = []
  item_faults (t_with_value v t x s) = demand_faults t.rate x
  item_faults (t_with_size a s) = []

  abbrev pub simple_faults : TSimple → List Fault
  simple_faults (t_value x) = expr_faults x
  simple_faults (t_run c) = call_faults c
  simple_faults (t_assign p x s) = place_faults p ++ demand_faults (place_type p).rate x
  simple_faults (t_update op e p x s) = place_faults p ++ demand_faults (place_type p).rate x
  simple_faults (t_step op e p s) = place_faults p

  abbrev pub first_faults : TFirst → List Fault
  first_faults (t_first_declare is s) = of_each item_faults is
  first_faults (t_first_simple p) = simple_faults p

  abbrev pub range_faults : TRange → List Fault
  range_faults r = demand_faults Uniform r.start ++ demand_faults Uniform r.end

  module _ (answer : Option Ty) where
    abbrev pub return_faults : TExpr → List Fault
    return_faults x = demand_faults (returned_rate answer) x

    abbrev mutual
      pub stmt_faults : Within → TStmt → List Fault
      stmt_faults w (t_block b) = block_faults w b
      stmt_faults w (t_declare is s) = of_each item_faults is
      stmt_faults w (t_simple p s) = simple_faults p
      stmt_faults w (t_if c n x a s) = expr_faults x ++ stmt_faults w a
      stmt_faults w (t_if_else c n x a b s) = expr_faults x ++ (stmt_faults w a ++ stmt_faults w b)
      stmt_faults w (t_while c n x a s) = expr_faults x ++ stmt_faults (in_loop w) a
      stmt_faults w (t_do c n a x s) = stmt_faults (in_loop w) a ++ expr_faults x
      stmt_faults w (t_for c n i x p m a s) = of_any first_faults i ++ (of_any expr_faults x ++ (of_any simple_faults p ++ stmt_faults (in_loop w) a))
      stmt_faults w (t_foreach k n rs a s) = unmet (not w.in_foreach) (fault NestedForeach k) ++ (of_each range_faults rs ++ stmt_faults (in_foreach w) a)
      stmt_faults w (t_foreach_active k n i a s) = stmt_faults (in_turns w) a
      stmt_faults w (t_foreach_unique k n i e x a s) = expr_faults x ++ stmt_faults (in_turns w) a
      stmt_faults w (t_unmasked k b s) = block_faults (in_unmasked w) b
      stmt_faults w (t_jump j k s) = unmet (may_jump j w.nearest) (fault BadExit k)
      stmt_faults w (t_return k x s) = unmet w.returns (fault BadExit k) ++ of_any return_faults x
      stmt_faults w (t_print k t xs s) = of_each expr_faults xs
      stmt_faults w (t_assert x c s) = expr_faults x

      pub block_faults : Within → TBlock → List Fault
      block_faults w (t_braces ss s) = stmts_faults w ss

      pub stmts_faults : Within → TStmts → List Fault
      stmts_faults w t_no_stmts = []
      stmts_faults w (t_stmt_then s ss) = stmt_faults w s ++ stmts_faults w ss

-- ---- functions

abbrev pub parameters_faults : List Span → List Variable → List Fault
parameters_faults [] vs = []
parameters_faults (s ∷ ss) [] = []
parameters_faults (s ∷ ss) (v ∷ vs) = unmet (goes_to Uniform (rate_held v.holds)) (fault BadExport s) ++ parameters_faults ss vs

abbrev pub result_faults : Span → Ty → List Fault
result_faults s t = unmet (goes_to Uniform t.rate) (fault BadExport s)

abbrev pub where_exported : Bool → List Fault → List Fault
where_exported true xs = xs
where_exported false xs = []

abbrev pub export_faults : TFunction → List Fault
export_faults g = where_exported g.exported (parameters_faults g.params g.variables ++ of_any (result_faults g.span) g.answer)

abbrev pub function_faults : List TFunction → TFunction → List Fault
function_faults fs g = export_faults g ++ block_faults fs g.answer at_start g.body

abbrev pub program_faults : Program → List Fault
program_faults p = of_each (function_faults p.functions) p.functions
