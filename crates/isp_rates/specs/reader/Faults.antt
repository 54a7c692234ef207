-- The fault that is answered of a node.
use Rattle.std.specs.Prelude.{List, [], ◌∷◌, Bool, true, false, not, Option, Some, None}
use Rattle.isp_base.specs.declared.types.Rate.{Rate}
use Rattle.isp_base.specs.declared.types.Rate.TheVariants.{Uniform}
use Rattle.isp_base.specs.declared.types.Span.{Span}
use Rattle.isp_base.specs.declared.types.Ty.{Ty}
use Rattle.isp_lex.specs.declared.fault.Fault.{Fault}
use Rattle.isp_lex.specs.declared.fault.Rule.TheVariants.{VaryingToUniform, BadExit, NestedForeach, BadExport}
use Rattle.isp_lex.specs.Faults.{fault}
use Rattle.isp_typed.specs.declared.library.Part.{Part}
use Rattle.isp_typed.specs.declared.variable.Variable.{Variable}
use Rattle.isp_typed.specs.Library.{parts}
use Rattle.isp_typed.specs.Verdicts.{first_of, fault_unless}
use Rattle.isp_typed.specs.Typed.{TExpr, t_constant, t_program_index, t_place, t_convert, t_cast, t_unary, t_binary, t_compare, t_logic, t_choose, t_call, t_library, t_packed_store, t_packed_load, type_of, span_of, place_type}
use Rattle.isp_typed.specs.Typed.{TPlace, t_variable, t_element, TBase, t_whole, t_from, TArgument, t_by_value, t_by_name, TCall, t_called, TArguments, t_no_arguments, t_argument_then, TExprs, t_no_exprs, t_expr_then, TFunction, Program}
use Rattle.isp_typed.specs.Typed.{TItem, t_plain, t_with_value, t_with_size, TSimple, t_value, t_run, t_assign, t_update, t_step, TFirst, t_first_declare, t_first_simple, TRange}
use Rattle.isp_typed.specs.Typed.{TStmt, t_block, t_declare, t_simple, t_if, t_if_else, t_while, t_do, t_for, t_foreach, t_foreach_active, t_foreach_unique}
use Rattle.isp_typed.specs.Typed.{t_unmasked, t_jump, t_return, t_print, t_assert, TBlock, t_braces, TStmts, t_no_stmts, t_stmt_then}
use Rattle.isp_rates.specs.declared.exits.Within.{Within}
use Rattle.isp_rates.specs.Rates.{goes_to, rate_held, variables_of, next_rate, later, next_part}
use Rattle.isp_rates.specs.Exits.{at_start, in_loop, in_foreach, in_turns, in_unmasked, may_jump, returned_rate}

-- of what may be left out, and of several
abbrev pub of_any : {A : Type 0} → (A → Option Fault) → Option A → Option Fault
of_any g None = None
of_any g (Some a) = g a

abbrev pub of_each : {A : Type 0} → (A → Option Fault) → List A → Option Fault
of_each g [] = None
of_each g (a ∷ rest) = first_of (g a) (of_each g rest)

-- a value of one rate where another is wanted
abbrev pub mismatch : Rate → Rate → Span → Option Fault
mismatch wanted given s = fault_unless (goes_to wanted given) (fault VaryingToUniform s)

-- after the fault of an expression the demand on it
abbrev pub demand : Rate → TExpr → Option Fault → Option Fault
demand wanted x (Some e) = Some e
demand wanted x None = mismatch wanted (type_of x).rate (span_of x)

module _ (fs : List TFunction) where
  abbrev mutual
    pub expr_fault : TExpr → Option Fault
    expr_fault (t_constant v s) = None
    expr_fault (t_program_index s) = None
    expr_fault (t_place p) = place_fault p
    expr_fault (t_convert e x) = expr_fault x
    expr_fault (t_cast x t s) = demand t.rate x (expr_fault x)
    expr_fault (t_unary op x t s) = expr_fault x
    expr_fault (t_binary op x y t s) = first_of (expr_fault x) (expr_fault y)
    expr_fault (t_compare c x y r s) = first_of (expr_fault x) (expr_fault y)
    expr_fault (t_logic l x y r s) = first_of (expr_fault x) (expr_fault y)
    expr_fault (t_choose c x y t s) = first_of (expr_fault c) (first_of (expr_fault x) (expr_fault y))
    expr_fault (t_call c t) = call_fault c
    expr_fault (t_library g e xs t s) = values_fault (parts g) xs
    expr_fault (t_packed_store b x s) = first_of (base_fault b) (expr_fault x)
    expr_fault (t_packed_load b v s) = base_fault b

    pub place_fault : TPlace → Option Fault
    place_fault (t_variable v t s) = None
    place_fault (t_element a x t s) = expr_fault x

    pub base_fault : TBase → Option Fault
    base_fault (t_whole a s) = mismatch Uniform a.ty.rate s
    base_fault (t_from a x s) = first_of (mismatch Uniform a.ty.rate s) (demand Uniform x (expr_fault x))

    pub argument_fault : Rate → TArgument → Option Fault
    argument_fault wanted (t_by_value x) = demand wanted x (expr_fault x)
    argument_fault wanted (t_by_name a s) = mismatch wanted a.ty.rate s

    pub call_fault : TCall → Option Fault
    call_fault (t_called g xs s) = arguments_fault (variables_of fs g) xs

    pub arguments_fault : List Variable → TArguments → Option Fault
    arguments_fault vs t_no_arguments = None
    arguments_fault vs (t_argument_then x xs) = first_of (argument_fault (next_rate vs) x) (arguments_fault (later vs) xs)

    pub values_fault : List Part → TExprs → Option Fault
    values_fault ps t_no_exprs = None
    values_fault ps (t_expr_then x xs) = first_of (demand (next_part ps) x (expr_fault x)) (values_fault (later ps) xs)

  abbrev pub demand_fault : Rate → TExpr → Option Fault
  demand_fault wanted x = demand wanted x (expr_fault x)

  abbrev pub item_fault : TItem → Option Fault
  item_fault (t_plain v t s) = None
  item_fault (t_with_value v t x s) = demand_fault t.rate x
  item_fault (t_with_size a s) = None

  abbrev pub simple_fault : TSimple → Option Fault
  simple_fault (t_value x) = expr_fault x
  simple_fault (t_run c) = call_fault c
  simple_fault (t_assign p x s) = first_of (place_fault p) (demand_fault (place_type p).rate x)
  simple_fault (t_update op e p x s) = first_of (place_fault p) (demand_fault (place_type p).rate x)
  simple_fault (t_step op e p s) = place_fault p

  abbrev pub first_fault : TFirst → Option Fault
  first_fault (t_first_declare is s) = of_each item_fault is
  first_fault (t_first_simple p) = simple_fault p

  abbrev pub range_fault : TRange → Option Fault
  range_fault r = first_of (demand_fault Uniform r.start) (demand_fault Uniform r.end)

  module _ (answer : Option Ty) where
    abbrev pub return_fault : TExpr → Option Fault
    return_fault x = demand_fault (returned_rate answer) x

    abbrev mutual
      pub stmt_fault : Within → TStmt → Option Fault
      stmt_fault w (t_block b) = block_fault w b
      stmt_fault w (t_declare is s) = of_each item_fault is
      stmt_fault w (t_simple p s) = simple_fault p
      stmt_fault w (t_if c n x a s) = first_of (expr_fault x) (stmt_fault w a)
      stmt_fault w (t_if_else c n x a b s) = first_of (expr_fault x) (first_of (stmt_fault w a) (stmt_fault w b))
      stmt_fault w (t_while c n x a s) = first_of (expr_fault x) (stmt_fault (in_loop w) a)
      stmt_fault w (t_do c n a x s) = first_of (stmt_fault (in_loop w) a) (expr_fault x)
      stmt_fault w (t_for c n i x p m a s) = first_of (of_any first_fault i) (first_of (of_any expr_fault x) (first_of (of_any simple_fault p) (stmt_fault (in_loop w) a)))
      stmt_fault w (t_foreach k n rs a s) = first_of (fault_unless (not w.in_foreach) (fault NestedForeach k)) (first_of (of_each range_fault rs) (stmt_fault (in_foreach w) a))
      stmt_fault w (t_foreach_active k n i a s) = stmt_fault (in_turns w) a
      stmt_fault w (t_foreach_unique k n i e x a s) = first_of (expr_fault x) (stmt_fault (in_turns w) a)
      stmt_fault w (t_unmasked k b s) = block_fault (in_unmasked w) b
      stmt_fault w (t_jump j k s) = fault_unless (may_jump j w.nearest) (fault BadExit k)
      stmt_fault w (t_return k x s) = first_of (fault_unless w.returns (fault BadExit k)) (of_any return_fault x)
      stmt_fault w (t_print k t xs s) = of_each expr_fault xs
      stmt_fault w (t_assert x c s) = expr_fault x

      pub block_fault : Within → TBlock → Option Fault
      block_fault w (t_braces ss s) = stmts_fault w ss

      pub stmts_fault : Within → TStmts → Option Fault
      stmts_fault w t_no_stmts = None
      stmts_fault w (t_stmt_then s ss) = first_of (stmt_fault w s) (stmts_fault w ss)

-- ---- functions

abbrev pub parameters_fault : List Span → List Variable → Option Fault
parameters_fault [] vs = None
parameters_fault (s ∷ ss) [] = None
parameters_fault (s ∷ ss) (v ∷ vs) = first_of (fault_unless (goes_to Uniform (rate_held v.holds)) (fault BadExport s)) (parameters_fault ss vs)

abbrev pub result_fault : Span → Ty → Option Fault
result_fault s t = fault_unless (goes_to Uniform t.rate) (fault BadExport s)

abbrev pub where_exported : Bool → Option Fault → Option Fault
where_exported true o = o
where_exported false o = None

abbrev pub export_fault : TFunction → Option Fault
export_fault g = where_exported g.exported (first_of (parameters_fault g.params g.variables) (of_any (result_fault g.span) g.answer))

abbrev pub function_fault : List TFunction → TFunction → Option Fault
function_fault fs g = first_of (export_fault g) (block_fault fs g.answer at_start g.body)

abbrev pub program_fault : Program → Option Fault
program_fault p = of_each (function_fault p.functions) p.functions
