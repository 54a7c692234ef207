-- In a program that is scoped a function has fewer variables than nodes, and no program has more functions than nodes.
use Rattle.std.proofs.Common.{◌≡◌, ℕ, zero, suc, ◌+◌, ◌≤◌, List, [], ◌∷◌, length, Option, Some, None, subst, ap, arith}
use Rattle.std.specs.Prelude.{slice_get}
use Rattle.std.proofs.lemmas.Option.{get_or_from_slice_get, same_Some, slice_get_within}
use Rattle.isp_tree.specs.Nodes.{nodes_of_option, nodes_of_all}
use Rattle.isp_typed.specs.Nodes.{item_nodes, first_nodes, range_nodes, stmt_nodes, block_nodes, stmts_nodes, function_nodes, program_nodes}
use Rattle.isp_typed.specs.Scoped.{number_after, number_after_first, number_after_stmt, number_after_block, number_after_stmts, ScopedFunction, IsScoped}
use Rattle.isp_typed.specs.Typed.{TItem, t_plain, t_with_value, t_with_size, TFirst, t_first_declare, t_first_simple, TRange, TStmt, t_block, t_declare, t_simple, t_if, t_if_else, t_while, t_do, t_for, t_foreach}
use Rattle.isp_typed.specs.Typed.{t_foreach_active, t_foreach_unique, t_unmasked, t_jump, t_return, t_print, t_assert, TBlock, t_braces, TStmts, t_no_stmts, t_stmt_then, TFunction, Program}
use Rattle.isp_masks_code.proofs.Free.{count_more}

-- ---- what a statement declares

-- a range is a node at least
pub ranges_low : (rs : List TRange) → length rs ≤ nodes_of_all range_nodes rs
ranges_low [] = omega arith
ranges_low (r ∷ rs) = let n = ranges_low rs in omega (arith, n)

item_some : (x : TItem) → 1 ≤ item_nodes x
item_some (t_plain v t s) = omega arith
item_some (t_with_value v t x s) = omega arith
item_some (t_with_size a s) = omega arith

items_low : (xs : List TItem) → length xs ≤ nodes_of_all item_nodes xs
items_low [] = omega arith
items_low (x ∷ xs) = omega (arith, item_some x, items_low xs)

first_declares : (n : ℕ) (o : Option TFirst) → number_after_first n o ≤ n + nodes_of_option first_nodes o
first_declares n None = omega arith
first_declares n (Some (t_first_declare xs s)) = omega (arith, count_more n xs, items_low xs)
first_declares n (Some (t_first_simple x)) = omega arith

mutual
  stmt_declares : (n : ℕ) (x : TStmt) → number_after_stmt n x ≤ n + stmt_nodes x
  stmt_declares n (t_block b) = block_declares n b
  stmt_declares n (t_declare xs s) = omega (arith, count_more n xs, items_low xs)
  stmt_declares n (t_simple x s) = omega arith
  stmt_declares n (t_if k m e x s) = omega (arith, stmt_declares n x)
  stmt_declares n (t_if_else k m e x y s) = omega (arith, stmt_declares n x, stmt_declares (number_after_stmt n x) y)
  stmt_declares n (t_while k m e x s) = omega (arith, stmt_declares n x)
  stmt_declares n (t_do k m x e s) = omega (arith, stmt_declares n x)
  stmt_declares n (t_for k m first e step i x s) = omega (arith, first_declares n first, stmt_declares (number_after_first n first) x)
  stmt_declares n (t_foreach w m rs x s) = omega (arith, count_more n rs, ranges_low rs, stmt_declares (number_after n rs) x)
  stmt_declares n (t_foreach_active w m i x s) = omega (arith, stmt_declares (suc n) x)
  stmt_declares n (t_foreach_unique w m i t e x s) = omega (arith, stmt_declares (suc n) x)
  stmt_declares n (t_unmasked w b s) = omega (arith, block_declares n b)
  stmt_declares n (t_jump j w s) = omega arith
  stmt_declares n (t_return w x s) = omega arith
  stmt_declares n (t_print w text xs s) = omega arith
  stmt_declares n (t_assert x c s) = omega arith

  block_declares : (n : ℕ) (b : TBlock) → number_after_block n b ≤ n + block_nodes b
  block_declares n (t_braces xs s) = omega (arith, stmts_declare n xs)

  stmts_declare : (n : ℕ) (xs : TStmts) → number_after_stmts n xs ≤ n + stmts_nodes xs
  stmts_declare n t_no_stmts = omega arith
  stmts_declare n (t_stmt_then x xs) = omega (arith, stmt_declares n x, stmts_declare (number_after_stmt n x) xs)

-- ---- functions

pub function_variables : (h : TFunction) → ScopedFunction h → length h.variables ≤ function_nodes h
function_variables h scoped = omega (arith, scoped.all, block_declares (length h.params) h.body)

pub variables_few : (p : Program) → IsScoped p → (f : ℕ) (h : TFunction) → slice_get p.functions f ≡ Some h → length h.variables ≤ function_nodes h
variables_few p scoped f h e =
    function_variables h (subst ScopedFunction (get_or_from_slice_get p.functions f h h e) (scoped.each f h (slice_get_within p.functions f h e)))

-- ---- programs

one_of_all : (fs : List TFunction) (f : ℕ) (h : TFunction) → slice_get fs f ≡ Some h → function_nodes h ≤ nodes_of_all function_nodes fs
one_of_all [] f h e = absurd (cc)
one_of_all (g ∷ fs) zero h e = let same = ap function_nodes (same_Some g h e) in omega (arith, same)
one_of_all (g ∷ fs) (suc f) h e = omega (arith, one_of_all fs f h e)

pub nodes_of_one : (p : Program) (f : ℕ) (h : TFunction) → slice_get p.functions f ≡ Some h → function_nodes h ≤ program_nodes p
nodes_of_one p f h e = one_of_all p.functions f h e

functions_low : (fs : List TFunction) → length fs ≤ nodes_of_all function_nodes fs
functions_low [] = omega arith
functions_low (g ∷ fs) = omega (arith, functions_low fs)

pub functions_few : (p : Program) → length p.functions ≤ program_nodes p
functions_few p = functions_low p.functions
