-- How many nodes a typed program has: those of its tree, where a conversion is one more.
use Rattle.std.specs.Prelude.{ℕ, suc, ◌+◌, length}
use Rattle.isp_tree.specs.Nodes.{nodes_of_option, nodes_of_all}
use Rattle.isp_typed.specs.Typed.{TExpr, t_constant, t_program_index, t_place, t_convert, t_cast, t_unary, t_binary, t_compare, t_logic, t_choose, t_call, t_library, t_packed_store, t_packed_load, TPlace, t_variable, t_element}
use Rattle.isp_typed.specs.Typed.{TBase, t_whole, t_from, TArgument, t_by_value, t_by_name, TCall, t_called, TArguments, t_no_arguments, t_argument_then, TExprs, t_no_exprs, t_expr_then}
use Rattle.isp_typed.specs.Typed.{TItem, t_plain, t_with_value, t_with_size, TSimple, t_value, t_run, t_assign, t_update, t_step, TFirst, t_first_declare, t_first_simple, TRange}
use Rattle.isp_typed.specs.Typed.{TStmt, t_block, t_declare, t_simple, t_if, t_if_else, t_while, t_do, t_for, t_foreach, t_foreach_active, t_foreach_unique, t_unmasked, t_jump}
use Rattle.isp_typed.specs.Typed.{t_return, t_print, t_assert, TBlock, t_braces, TStmts, t_no_stmts, t_stmt_then, TFunction, Program}

abbrev mutual
  pub typed_nodes : TExpr → ℕ
  typed_nodes (t_constant v s) = 1
  typed_nodes (t_program_index s) = 1
  typed_nodes (t_place p) = place_nodes p
  typed_nodes (t_convert e x) = suc (typed_nodes x)
  typed_nodes (t_cast x t s) = suc (typed_nodes x)
  typed_nodes (t_unary op x t s) = suc (typed_nodes x)
  typed_nodes (t_binary op x y t s) = suc (typed_nodes x + typed_nodes y)
  typed_nodes (t_compare c x y r s) = suc (typed_nodes x + typed_nodes y)
  typed_nodes (t_logic l x y r s) = suc (typed_nodes x + typed_nodes y)
  typed_nodes (t_choose c x y t s) = suc (typed_nodes c + (typed_nodes x + typed_nodes y))
  typed_nodes (t_call c t) = call_nodes c
  typed_nodes (t_library f e xs t s) = suc (exprs_nodes xs)
  typed_nodes (t_packed_store b x s) = suc (base_nodes b + typed_nodes x)
  typed_nodes (t_packed_load b v s) = suc (suc (base_nodes b))

  pub place_nodes : TPlace → ℕ
  place_nodes (t_variable k t s) = 1
  place_nodes (t_element a i t s) = suc (typed_nodes i)

  pub base_nodes : TBase → ℕ
  base_nodes (t_whole a s) = 1
  base_nodes (t_from a i s) = suc (typed_nodes i)

  pub call_nodes : TCall → ℕ
  call_nodes (t_called k xs s) = suc (arguments_nodes xs)

  pub argument_nodes : TArgument → ℕ
  argument_nodes (t_by_value x) = typed_nodes x
  argument_nodes (t_by_name a s) = 1

  pub arguments_nodes : TArguments → ℕ
  arguments_nodes t_no_arguments = 0
  arguments_nodes (t_argument_then x xs) = argument_nodes x + arguments_nodes xs

  pub exprs_nodes : TExprs → ℕ
  exprs_nodes t_no_exprs = 0
  exprs_nodes (t_expr_then x xs) = typed_nodes x + exprs_nodes xs

abbrev pub item_nodes : TItem → ℕ
item_nodes (t_plain k t s) = 1
item_nodes (t_with_value k t x s) = suc (typed_nodes x)
item_nodes (t_with_size a s) = 1

abbrev pub simple_nodes : TSimple → ℕ
simple_nodes (t_value x) = typed_nodes x
simple_nodes (t_run c) = call_nodes c
simple_nodes (t_assign p x s) = place_nodes p + typed_nodes x
simple_nodes (t_update op e p x s) = place_nodes p + typed_nodes x
simple_nodes (t_step op e p s) = place_nodes p

abbrev pub first_nodes : TFirst → ℕ
first_nodes (t_first_declare is s) = suc (nodes_of_all item_nodes is)
first_nodes (t_first_simple p) = suc (simple_nodes p)

abbrev pub step_nodes : TSimple → ℕ
step_nodes p = suc (simple_nodes p)

abbrev pub range_nodes : TRange → ℕ
range_nodes r = suc (typed_nodes r.start + typed_nodes r.end)

abbrev mutual
  pub stmt_nodes : TStmt → ℕ
  stmt_nodes (t_block b) = block_nodes b
  stmt_nodes (t_declare is s) = suc (nodes_of_all item_nodes is)
  stmt_nodes (t_simple p s) = suc (simple_nodes p)
  stmt_nodes (t_if f n x a s) = suc (typed_nodes x + stmt_nodes a)
  stmt_nodes (t_if_else f n x a b s) = suc (typed_nodes x + (stmt_nodes a + stmt_nodes b))
  stmt_nodes (t_while f n x a s) = suc (typed_nodes x + stmt_nodes a)
  stmt_nodes (t_do f n a x s) = suc (stmt_nodes a + typed_nodes x)
  stmt_nodes (t_for f n i x p m a s) =
      suc (nodes_of_option first_nodes i + (nodes_of_option typed_nodes x + (nodes_of_option step_nodes p + stmt_nodes a)))
  stmt_nodes (t_foreach k n rs a s) = suc (nodes_of_all range_nodes rs + stmt_nodes a)
  stmt_nodes (t_foreach_active k n i a s) = suc (stmt_nodes a)
  stmt_nodes (t_foreach_unique k n i e x a s) = suc (typed_nodes x + stmt_nodes a)
  stmt_nodes (t_unmasked k b s) = suc (block_nodes b)
  stmt_nodes (t_jump j k s) = 1
  stmt_nodes (t_return k x s) = suc (nodes_of_option typed_nodes x)
  stmt_nodes (t_print k t xs s) = suc (nodes_of_all typed_nodes xs)
  stmt_nodes (t_assert x c s) = suc (typed_nodes x)

  pub block_nodes : TBlock → ℕ
  block_nodes (t_braces ss s) = suc (stmts_nodes ss)

  pub stmts_nodes : TStmts → ℕ
  stmts_nodes t_no_stmts = 0
  stmts_nodes (t_stmt_then s ss) = stmt_nodes s + stmts_nodes ss

abbrev pub function_nodes : TFunction → ℕ
function_nodes f = suc (length f.params + block_nodes f.body)

abbrev pub program_nodes : Program → ℕ
program_nodes p = nodes_of_all function_nodes p.functions
