-- How deep a tree is: the statements and the nodes of expressions on the longest way down.
-- A type, a size, a text, a declared item, the sign of an assignment and `&` count none.
use Rattle.std.specs.Prelude.{ℕ, suc, max, List, [], ◌∷◌, Option, Some, None}
use Rattle.isp_tree.specs.Tree.{Expr, number, truth, program_index, program_count, place, call, brackets, cast, prefix, binary, choose, Place, variable, element, Argument, by_value, by_reference, Arguments, no_arguments, argument_then, listed}
use Rattle.isp_tree.specs.Tree.{Item, plain, with_value, with_size, Declaration, Simple, value, assign, change, First, first_declare, first_simple, Range}
use Rattle.isp_tree.specs.Tree.{Stmt, block, empty, declare, simple, if_then, if_else, loop_while, loop_do, loop_for, foreach, foreach_active, foreach_unique}
use Rattle.isp_tree.specs.Tree.{unmasked, jump, returning, print, assert, Block, braces, Stmts, no_stmts, stmt_then, Function}

-- how deep a tree may be
abbrev pub limit : ℕ
limit = 128

abbrev mutual
  pub depth : Expr → ℕ
  depth (number v s) = 1
  depth (truth b s) = 1
  depth (program_index s) = 1
  depth (program_count s) = 1
  depth (place p) = depth_of_place p
  depth (call w xs s) = suc (depth_of_row xs)
  depth (brackets x s) = suc (depth x)
  depth (cast t x s) = suc (depth x)
  depth (prefix p x s) = suc (depth x)
  depth (binary op x y s) = suc (max (depth x) (depth y))
  depth (choose x y z s) = suc (max (depth x) (max (depth y) (depth z)))

  pub depth_of_place : Place → ℕ
  depth_of_place (variable w) = 1
  depth_of_place (element w x s) = suc (depth x)

  pub depth_of_argument : Argument → ℕ
  depth_of_argument (by_value x) = depth x
  depth_of_argument (by_reference p s) = depth_of_place p

  pub depth_of_row : Arguments → ℕ
  depth_of_row no_arguments = 0
  depth_of_row (argument_then x xs) = max (depth_of_argument x) (depth_of_row xs)

abbrev pub depth_of_all : List Argument → ℕ
depth_of_all xs = depth_of_row (listed xs)

-- the depth of what may be left out
abbrev pub depth_of_option : {A : Type 0} → (A → ℕ) → Option A → ℕ
depth_of_option deep None = 0
depth_of_option deep (Some x) = deep x

abbrev pub deepest_of : {A : Type 0} → (A → ℕ) → List A → ℕ
deepest_of deep [] = 0
deepest_of deep (x ∷ xs) = max (deep x) (deepest_of deep xs)

abbrev pub depth_of_item : Item → ℕ
depth_of_item (plain w) = 0
depth_of_item (with_value w x s) = depth x
depth_of_item (with_size w n s) = 0

abbrev pub depth_of_declaration : Declaration → ℕ
depth_of_declaration d = deepest_of depth_of_item d.items

abbrev pub depth_of_simple : Simple → ℕ
depth_of_simple (value x) = depth x
depth_of_simple (assign a t x s) = max (depth t) (depth x)
depth_of_simple (change c x s) = depth x

-- the first part and the step of a `for` are statements
abbrev pub depth_of_first : First → ℕ
depth_of_first (first_declare d) = suc (depth_of_declaration d)
depth_of_first (first_simple s) = suc (depth_of_simple s)

abbrev pub depth_of_step : Simple → ℕ
depth_of_step s = suc (depth_of_simple s)

abbrev pub depth_of_range : Range → ℕ
depth_of_range r = max (depth r.start) (depth r.end)

abbrev mutual
  pub depth_of_stmt : Stmt → ℕ
  depth_of_stmt (block b) = depth_of_block b
  depth_of_stmt (empty s) = 1
  depth_of_stmt (declare d s) = suc (depth_of_declaration d)
  depth_of_stmt (simple p s) = suc (depth_of_simple p)
  depth_of_stmt (if_then f x a s) = suc (max (depth x) (depth_of_stmt a))
  depth_of_stmt (if_else f x a b s) = suc (max (depth x) (max (depth_of_stmt a) (depth_of_stmt b)))
  depth_of_stmt (loop_while f x a s) = suc (max (depth x) (depth_of_stmt a))
  depth_of_stmt (loop_do f a x s) = suc (max (depth_of_stmt a) (depth x))
  depth_of_stmt (loop_for f i x p a s) =
      suc (max (depth_of_option depth_of_first i) (max (depth_of_option depth x) (max (depth_of_option depth_of_step p) (depth_of_stmt a))))
  depth_of_stmt (foreach t k rs a s) = suc (max (deepest_of depth_of_range rs) (depth_of_stmt a))
  depth_of_stmt (foreach_active k w a s) = suc (depth_of_stmt a)
  depth_of_stmt (foreach_unique k w x a s) = suc (max (depth x) (depth_of_stmt a))
  depth_of_stmt (unmasked k b s) = suc (depth_of_block b)
  depth_of_stmt (jump j k s) = 1
  depth_of_stmt (returning k x s) = suc (depth_of_option depth x)
  depth_of_stmt (print k t p xs s) = suc (deepest_of depth xs)
  depth_of_stmt (assert x c s) = suc (depth x)

  pub depth_of_block : Block → ℕ
  depth_of_block (braces ss s) = suc (depth_of_stmts ss)

  pub depth_of_stmts : Stmts → ℕ
  depth_of_stmts no_stmts = 0
  depth_of_stmts (stmt_then s ss) = max (depth_of_stmt s) (depth_of_stmts ss)

-- from a function's body on, which counts
abbrev pub depth_of_functions : List Function → ℕ
depth_of_functions = deepest_of (λ f. depth_of_block f.body)
