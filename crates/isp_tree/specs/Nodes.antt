-- How many nodes a tree has: its functions, parameters, statements (a block is one, and so is the first part and the
-- step of a `for`), declared items, ranges and nodes of expressions, the sign `&` included.
use Rattle.std.specs.Prelude.{ℕ, suc, ◌+◌, List, [], ◌∷◌, length, Option, Some, None}
use Rattle.isp_tree.specs.Tree.{Expr, number, truth, program_index, program_count, place, call, brackets, cast, prefix, binary, choose, Place, variable, element, Argument, by_value, by_reference, Arguments, no_arguments, argument_then}
use Rattle.isp_tree.specs.Tree.{Item, plain, with_value, with_size, Declaration, Simple, value, assign, change, First, first_declare, first_simple, Range}
use Rattle.isp_tree.specs.Tree.{Stmt, block, empty, declare, simple, if_then, if_else, loop_while, loop_do, loop_for, foreach, foreach_active, foreach_unique}
use Rattle.isp_tree.specs.Tree.{unmasked, jump, returning, print, assert, Block, braces, Stmts, no_stmts, stmt_then, Function}

-- how many nodes a tree may have: no more than its text has bytes
abbrev pub most : ℕ
most = 1048576

abbrev mutual
  pub nodes : Expr → ℕ
  nodes (number v s) = 1
  nodes (truth b s) = 1
  nodes (program_index s) = 1
  nodes (program_count s) = 1
  nodes (place p) = nodes_of_place p
  nodes (call w xs s) = suc (nodes_of_row xs)
  nodes (brackets x s) = suc (nodes x)
  nodes (cast t x s) = suc (nodes x)
  nodes (prefix p x s) = suc (nodes x)
  nodes (binary op x y s) = suc (nodes x + nodes y)
  nodes (choose x y z s) = suc (nodes x + (nodes y + nodes z))

  pub nodes_of_place : Place → ℕ
  nodes_of_place (variable w) = 1
  nodes_of_place (element w x s) = suc (nodes x)

  pub nodes_of_argument : Argument → ℕ
  nodes_of_argument (by_value x) = nodes x
  nodes_of_argument (by_reference p s) = suc (nodes_of_place p)

  pub nodes_of_row : Arguments → ℕ
  nodes_of_row no_arguments = 0
  nodes_of_row (argument_then x xs) = nodes_of_argument x + nodes_of_row xs

-- the nodes of what may be left out
abbrev pub nodes_of_option : {A : Type 0} → (A → ℕ) → Option A → ℕ
nodes_of_option count None = 0
nodes_of_option count (Some x) = count x

-- the nodes of all
abbrev pub nodes_of_all : {A : Type 0} → (A → ℕ) → List A → ℕ
nodes_of_all count [] = 0
nodes_of_all count (x ∷ xs) = count x + nodes_of_all count xs

abbrev pub nodes_of_item : Item → ℕ
nodes_of_item (plain w) = 1
nodes_of_item (with_value w x s) = suc (nodes x)
nodes_of_item (with_size w n s) = 1

abbrev pub nodes_of_declaration : Declaration → ℕ
nodes_of_declaration d = nodes_of_all nodes_of_item d.items

abbrev pub nodes_of_simple : Simple → ℕ
nodes_of_simple (value x) = nodes x
nodes_of_simple (assign a t x s) = nodes t + nodes x
nodes_of_simple (change c x s) = nodes x

abbrev pub nodes_of_first : First → ℕ
nodes_of_first (first_declare d) = suc (nodes_of_declaration d)
nodes_of_first (first_simple s) = suc (nodes_of_simple s)

abbrev pub nodes_of_step : Simple → ℕ
nodes_of_step s = suc (nodes_of_simple s)

abbrev pub nodes_of_range : Range → ℕ
nodes_of_range r = suc (nodes r.start + nodes r.end)

abbrev mutual
  pub nodes_of_stmt : Stmt → ℕ
  nodes_of_stmt (block b) = nodes_of_block b
  nodes_of_stmt (empty s) = 1
  nodes_of_stmt (declare d s) = suc (nodes_of_declaration d)
  nodes_of_stmt (simple p s) = suc (nodes_of_simple p)
  nodes_of_stmt (if_then f x a s) = suc (nodes x + nodes_of_stmt a)
  nodes_of_stmt (if_else f x a b s) = suc (nodes x + (nodes_of_stmt a + nodes_of_stmt b))
  nodes_of_stmt (loop_while f x a s) = suc (nodes x + nodes_of_stmt a)
  nodes_of_stmt (loop_do f a x s) = suc (nodes_of_stmt a + nodes x)
  nodes_of_stmt (loop_for f i x p a s) =
      suc (nodes_of_option nodes_of_first i + (nodes_of_option nodes x + (nodes_of_option nodes_of_step p + nodes_of_stmt a)))
  nodes_of_stmt (foreach t k rs a s) = suc (nodes_of_all nodes_of_range rs + nodes_of_stmt a)
  nodes_of_stmt (foreach_active k w a s) = suc (nodes_of_stmt a)
  nodes_of_stmt (foreach_unique k w x a s) = suc (nodes x + nodes_of_stmt a)
  nodes_of_stmt (unmasked k b s) = suc (nodes_of_block b)
  nodes_of_stmt (jump j k s) = 1
  nodes_of_stmt (returning k x s) = suc (nodes_of_option nodes x)
  nodes_of_stmt (print k t p xs s) = suc (nodes_of_all nodes xs)
  nodes_of_stmt (assert x c s) = suc (nodes x)

  pub nodes_of_block : Block → ℕ
  nodes_of_block (braces ss s) = suc (nodes_of_stmts ss)

  pub nodes_of_stmts : Stmts → ℕ
  nodes_of_stmts no_stmts = 0
  nodes_of_stmts (stmt_then s ss) = nodes_of_stmt s + nodes_of_stmts ss

abbrev pub nodes_of_function : Function → ℕ
nodes_of_function f = suc (length f.params + nodes_of_block f.body)

abbrev pub nodes_of_functions : List Function → ℕ
nodes_of_functions = nodes_of_all nodes_of_function
