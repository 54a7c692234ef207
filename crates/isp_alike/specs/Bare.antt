-- Typed trees without their places: each span is 0..0. The meaning of a program looks at places only to say where it traps.
use Rattle.std.specs.Prelude.{map, option_map}
use Rattle.isp_base.specs.declared.types.Span.{Span}
use Rattle.isp_typed.specs.Typed.{TExpr, t_constant, t_program_index, t_place, t_convert, t_cast, t_unary, t_binary, t_compare, t_logic, t_choose, t_call, t_library, t_packed_store, t_packed_load}
use Rattle.isp_typed.specs.Typed.{TPlace, t_variable, t_element, TBase, t_whole, t_from, TArgument, t_by_value, t_by_name, TCall, t_called, TArguments, t_no_arguments, t_argument_then, TExprs, t_no_exprs, t_expr_then}
use Rattle.isp_typed.specs.Typed.{TItem, t_plain, t_with_value, t_with_size, TSimple, t_value, t_run, t_assign, t_update, t_step, TFirst, t_first_declare, t_first_simple, TRange}
use Rattle.isp_typed.specs.Typed.{TStmt, t_block, t_declare, t_simple, t_if, t_if_else, t_while, t_do, t_for, t_foreach, t_foreach_active, t_foreach_unique}
use Rattle.isp_typed.specs.Typed.{t_unmasked, t_jump, t_return, t_print, t_assert, TBlock, t_braces, TStmts, t_no_stmts, t_stmt_then, TFunction, Program}

abbrev pub nowhere : Span
nowhere = record { start = 0; end = 0 }

abbrev mutual
  pub bare_expr : TExpr → TExpr
  bare_expr (t_constant v s) = t_constant v nowhere
  bare_expr (t_program_index s) = t_program_index nowhere
  bare_expr (t_place p) = t_place (bare_place p)
  bare_expr (t_convert e x) = t_convert e (bare_expr x)
  bare_expr (t_cast x t s) = t_cast (bare_expr x) t nowhere
  bare_expr (t_unary op x t s) = t_unary op (bare_expr x) t nowhere
  bare_expr (t_binary op x y t s) = t_binary op (bare_expr x) (bare_expr y) t nowhere
  bare_expr (t_compare c x y r s) = t_compare c (bare_expr x) (bare_expr y) r nowhere
  bare_expr (t_logic l x y r s) = t_logic l (bare_expr x) (bare_expr y) r nowhere
  bare_expr (t_choose c x y t s) = t_choose (bare_expr c) (bare_expr x) (bare_expr y) t nowhere
  bare_expr (t_call c t) = t_call (bare_call c) t
  bare_expr (t_library f e xs t s) = t_library f e (bare_exprs xs) t nowhere
  bare_expr (t_packed_store b x s) = t_packed_store (bare_base b) (bare_expr x) nowhere
  bare_expr (t_packed_load b k s) = t_packed_load (bare_base b) k nowhere

  pub bare_place : TPlace → TPlace
  bare_place (t_variable k t s) = t_variable k t nowhere
  bare_place (t_element a x t s) = t_element a (bare_expr x) t nowhere

  pub bare_base : TBase → TBase
  bare_base (t_whole a s) = t_whole a nowhere
  bare_base (t_from a x s) = t_from a (bare_expr x) nowhere

  pub bare_argument : TArgument → TArgument
  bare_argument (t_by_value x) = t_by_value (bare_expr x)
  bare_argument (t_by_name a s) = t_by_name a nowhere

  pub bare_call : TCall → TCall
  bare_call (t_called f xs s) = t_called f (bare_arguments xs) nowhere

  pub bare_arguments : TArguments → TArguments
  bare_arguments t_no_arguments = t_no_arguments
  bare_arguments (t_argument_then x xs) = t_argument_then (bare_argument x) (bare_arguments xs)

  pub bare_exprs : TExprs → TExprs
  bare_exprs t_no_exprs = t_no_exprs
  bare_exprs (t_expr_then x xs) = t_expr_then (bare_expr x) (bare_exprs xs)

-- ---- declarations, and what stands before a semicolon

abbrev pub bare_item : TItem → TItem
bare_item (t_plain k t s) = t_plain k t nowhere
bare_item (t_with_value k t x s) = t_with_value k t (bare_expr x) nowhere
bare_item (t_with_size a s) = t_with_size a nowhere

abbrev pub bare_simple : TSimple → TSimple
bare_simple (t_value x) = t_value (bare_expr x)
bare_simple (t_run c) = t_run (bare_call c)
bare_simple (t_assign p x s) = t_assign (bare_place p) (bare_expr x) nowhere
bare_simple (t_update op e p x s) = t_update op e (bare_place p) (bare_expr x) nowhere
bare_simple (t_step op e p s) = t_step op e (bare_place p) nowhere

abbrev pub bare_first : TFirst → TFirst
bare_first (t_first_declare is s) = t_first_declare (map bare_item is) nowhere
bare_first (t_first_simple p) = t_first_simple (bare_simple p)

abbrev pub bare_range : TRange → TRange
bare_range r = record { index = r.index; start = bare_expr r.start; end = bare_expr r.end; span = nowhere }

-- ---- statements

abbrev mutual
  pub bare_stmt : TStmt → TStmt
  bare_stmt (t_block b) = t_block (bare_block b)
  bare_stmt (t_declare is s) = t_declare (map bare_item is) nowhere
  bare_stmt (t_simple p s) = t_simple (bare_simple p) nowhere
  bare_stmt (t_if c n x a s) = t_if c n (bare_expr x) (bare_stmt a) nowhere
  bare_stmt (t_if_else c n x a b s) = t_if_else c n (bare_expr x) (bare_stmt a) (bare_stmt b) nowhere
  bare_stmt (t_while c n x a s) = t_while c n (bare_expr x) (bare_stmt a) nowhere
  bare_stmt (t_do c n a x s) = t_do c n (bare_stmt a) (bare_expr x) nowhere
  bare_stmt (t_for c n i x p m a s) = t_for c n (option_map bare_first i) (option_map bare_expr x) (option_map bare_simple p) m (bare_stmt a) nowhere
  bare_stmt (t_foreach w n rs a s) = t_foreach nowhere n (map bare_range rs) (bare_stmt a) nowhere
  bare_stmt (t_foreach_active w n i a s) = t_foreach_active nowhere n i (bare_stmt a) nowhere
  bare_stmt (t_foreach_unique w n i e x a s) = t_foreach_unique nowhere n i e (bare_expr x) (bare_stmt a) nowhere
  bare_stmt (t_unmasked w b s) = t_unmasked nowhere (bare_block b) nowhere
  bare_stmt (t_jump j w s) = t_jump j nowhere nowhere
  bare_stmt (t_return w x s) = t_return nowhere (option_map bare_expr x) nowhere
  bare_stmt (t_print w t xs s) = t_print nowhere t (map bare_expr xs) nowhere
  bare_stmt (t_assert x c s) = t_assert (bare_expr x) nowhere nowhere

  pub bare_block : TBlock → TBlock
  bare_block (t_braces ss s) = t_braces (bare_stmts ss) nowhere

  pub bare_stmts : TStmts → TStmts
  bare_stmts t_no_stmts = t_no_stmts
  bare_stmts (t_stmt_then s ss) = t_stmt_then (bare_stmt s) (bare_stmts ss)

-- ---- functions and programs

abbrev pub bare_function : TFunction → TFunction
bare_function g = record {
  name = g.name;
  span = nowhere;
  exported = g.exported;
  parameters = g.parameters;
  gives = g.gives;
  params = map (λ s. nowhere) g.params;
  answer = g.answer;
  variables = g.variables;
  body = bare_block g.body;
}

abbrev pub bare_program : Program → Program
bare_program p = record { gang = p.gang; functions = map bare_function p.functions }
