-- How many tasks are done at most for a piece of a program, whatever the registers and the state hold. A task that waits counts for one, and
-- for those that it leaves.
use Rattle.std.specs.Prelude.{ℕ, zero, suc, ◌+◌, ◌*◌, ◌^◌, List, [], ◌∷◌, Option, Some, None, slice_get}
use Rattle.isp_base.specs.Types.{gang_width}
use Rattle.isp_typed.specs.Typed.{TExpr, t_exprs, t_constant, t_program_index, t_place, t_convert, t_cast, t_unary, t_binary, t_compare, t_logic, t_choose, t_call, t_library, t_packed_store, t_packed_load, TPlace, t_variable, TBase, t_whole, t_from}
use Rattle.isp_typed.specs.Typed.{t_element, TArgument, t_by_value, t_by_name, TCall, t_called, TArguments, t_no_arguments, t_argument_then, TExprs, t_no_exprs, t_expr_then}
use Rattle.isp_typed.specs.Typed.{TItem, t_plain, t_with_value, t_with_size, TSimple, t_value, t_run, t_assign, t_update, t_step, TFirst, t_first_declare, t_first_simple, TRange}
use Rattle.isp_typed.specs.Typed.{TStmt, t_block, t_declare, t_simple, t_if, t_if_else, t_while, t_do, t_for, t_foreach, t_foreach_active, t_foreach_unique, t_unmasked, t_jump, t_return, t_print, t_assert}
use Rattle.isp_meaning.specs.Rounds.{Range, length_of}
use Rattle.isp_typed.specs.Typed.{TBlock, t_braces, TStmts, t_no_stmts, t_stmt_then, TFunction, Program}

-- one task waits; then a first one does, and a second
abbrev pub one : ℕ → ℕ
one n = suc n

abbrev pub two : ℕ → ℕ → ℕ
two n k = suc n + suc k

-- the second branch, and then both sets are joined
abbrev pub second_most : Option ℕ → ℕ
second_most None = one 0
second_most (Some k) = two k 0

-- a branch, and then the other, where there is one
abbrev pub branch_most : ℕ → Option ℕ → ℕ
branch_most n o = two n (second_most o)

-- ---- the turns of a loop, and the runs of a `foreach`, whose body takes so many

abbrev pub turns_most : ℕ → (ℕ → ℕ) → (ℕ → ℕ) → ℕ → ℕ
turns_most body test step zero = 0
turns_most body test step (suc n) = two body (step (test (turns_most body test step n)))

abbrev pub rounds_most : ℕ → ℕ → ℕ
rounds_most body zero = 0
rounds_most body (suc n) = two body (rounds_most body n)

-- no more runs than tuples of numbers, one of each range
abbrev pub runs_most : List Range → ℕ
runs_most [] = 1
runs_most (r ∷ rs) = length_of r * runs_most rs

-- ---- expressions, and what stands before a semicolon; a function by its number takes so many

module _ (calls : ℕ → ℕ) where
  abbrev mutual
    pub expr_most : TExpr → ℕ
    expr_most (t_constant v sp) = 0
    expr_most (t_program_index sp) = 0
    expr_most (t_place q) = place_most q 0
    expr_most (t_convert e x) = two (expr_most x) 0
    expr_most (t_cast x t sp) = one (expr_most x)
    expr_most (t_unary op x t sp) = two (expr_most x) 0
    expr_most (t_binary op x y t sp) = two (expr_most x) (two (expr_most y) 0)
    expr_most (t_compare c x y r sp) = two (expr_most x) (two (expr_most y) 0)
    expr_most (t_logic l x y r sp) = two (expr_most x) (two (expr_most y) 0)
    expr_most (t_choose c x y t sp) = two (expr_most c) (two (expr_most x) (two (expr_most y) 0))
    expr_most (t_call c t) = one (call_most c)
    expr_most (t_library f e xs t sp) = exprs_most xs
    expr_most (t_packed_store b x sp) = base_most b (two (expr_most x) 0)
    expr_most (t_packed_load b v sp) = base_most b 0

    -- its index, and then so many
    pub place_most : TPlace → ℕ → ℕ
    place_most (t_variable v t sp) n = n
    place_most (t_element b i t sp) n = two (expr_most i) n

    pub base_most : TBase → ℕ → ℕ
    base_most (t_whole b sp) n = n
    base_most (t_from b i sp) n = two (expr_most i) n

    pub exprs_most : TExprs → ℕ
    exprs_most t_no_exprs = 0
    exprs_most (t_expr_then x xs) = two (expr_most x) (exprs_most xs)

    pub call_most : TCall → ℕ
    call_most (t_called f xs sp) = one (arguments_most xs (calls f))

    pub arguments_most : TArguments → ℕ → ℕ
    arguments_most t_no_arguments n = n
    arguments_most (t_argument_then x xs) n = argument_most x (arguments_most xs n)

    pub argument_most : TArgument → ℕ → ℕ
    argument_most (t_by_value x) n = two (expr_most x) (one n)
    argument_most (t_by_name b sp) n = one n

  abbrev pub simple_most : TSimple → ℕ
  simple_most (t_value x) = two (expr_most x) 0
  simple_most (t_run c) = two (call_most c) 0
  simple_most (t_assign q x sp) = place_most q (two (expr_most x) 0)
  simple_most (t_update op t q x sp) = place_most q (two (expr_most x) 0)
  simple_most (t_step op t q sp) = place_most q 0

  abbrev pub item_most : TItem → ℕ
  item_most (t_plain v t sp) = 0
  item_most (t_with_value v t x sp) = two (expr_most x) 0
  item_most (t_with_size b sp) = 0

  abbrev pub items_most : List TItem → ℕ
  items_most [] = 0
  items_most (x ∷ xs) = item_most x + one (items_most xs)

  -- the value of a `return` and the first part of a `for`, where there is one
  abbrev pub give_most : Option TExpr → ℕ
  give_most None = 0
  give_most (Some x) = two (expr_most x) 0

  abbrev pub first_most : Option TFirst → ℕ
  first_most None = 0
  first_most (Some (t_first_declare xs sp)) = one (items_most xs)
  first_most (Some (t_first_simple x)) = one (simple_most x)

  -- ---- the other parts of a loop, and then so many

  abbrev pub test_most : Option TExpr → ℕ → ℕ
  test_most None n = n
  test_most (Some x) n = two (expr_most x) n

  abbrev pub step_most : Option TSimple → ℕ → ℕ
  step_most None n = one n
  step_most (Some x) n = two (simple_most x) n

  -- the bounds of ranges, which are int32, and then the runs, where the ranges before make so many
  abbrev pub bounds_most : ℕ → List TRange → ℕ → ℕ
  bounds_most body [] n = one (rounds_most body n)
  bounds_most body (r ∷ rs) n = two (expr_most r.start) (two (expr_most r.end) (bounds_most body rs (n * 2 ^ 32)))

-- ---- statements; a loop makes so many turns each time it is entered

module _ (gang : ℕ) (calls : ℕ → ℕ) (turns : ℕ) where
  abbrev mutual
    pub stmt_most : TStmt → ℕ
    stmt_most (t_block b) = block_most b
    stmt_most (t_declare xs sp) = two (items_most calls xs) 0
    stmt_most (t_simple x sp) = two (simple_most calls x) 0
    stmt_most (t_if f n e x sp) = two (expr_most calls e) (branch_most (stmt_most x) None)
    stmt_most (t_if_else f n e x y sp) = two (expr_most calls e) (branch_most (stmt_most x) (Some (stmt_most y)))
    stmt_most (t_while f n e x sp) = test_most calls (Some e) (turns_most (stmt_most x) (test_most calls (Some e)) (step_most calls None) turns)
    stmt_most (t_do f n x e sp) = turns_most (stmt_most x) (test_most calls (Some e)) (step_most calls None) turns
    stmt_most (t_for f n first e step i x sp) = first_most calls first + one (test_most calls e (turns_most (stmt_most x) (test_most calls e) (step_most calls step) turns))
    stmt_most (t_foreach w n rs x sp) = bounds_most calls (stmt_most x) rs 1
    stmt_most (t_foreach_active w n i x sp) = rounds_most (stmt_most x) gang
    stmt_most (t_foreach_unique w n i t e x sp) = two (expr_most calls e) (rounds_most (stmt_most x) gang)
    stmt_most (t_unmasked w b sp) = block_most b + one 0
    stmt_most (t_print w text xs sp) = exprs_most calls (t_exprs xs)
    stmt_most (t_jump j w sp) = 0
    stmt_most (t_return w x sp) = give_most calls x
    stmt_most (t_assert x c sp) = two (expr_most calls x) 0

    pub block_most : TBlock → ℕ
    block_most (t_braces xs sp) = stmts_most xs

    pub stmts_most : TStmts → ℕ
    stmts_most t_no_stmts = 0
    stmts_most (t_stmt_then x xs) = two (stmt_most x) (stmts_most xs)

-- ---- functions: the body, and then the caller goes on

abbrev pub function_most : ℕ → ℕ → (ℕ → ℕ) → Option TFunction → ℕ
function_most gang turns calls None = 0
function_most gang turns calls (Some f) = block_most gang calls turns f.body + one 0

-- with so many levels left
abbrev pub calls_most : Program → ℕ → ℕ → ℕ → ℕ
calls_most program turns zero f = 0
calls_most program turns (suc left) f = function_most (gang_width program.gang) turns (calls_most program turns left) (slice_get program.functions f)
