-- The breach that is answered of a node: of two the one that starts first, a tie by the lower number. No part of a promise.
use Rattle.std.specs.Prelude.{Bool, true, false, cond, not, ◌&&◌, ◌||◌, ◌==◌, nat_lt, List, [], ◌∷◌, Option, Some, None, option_map}
use Rattle.isp_base.specs.declared.types.Span.{Span}
use Rattle.isp_typed.specs.Typed.{rate_of, TExpr, t_constant, t_program_index, t_place, t_convert, t_cast, t_unary, t_binary, t_compare, t_logic, t_choose, t_call}
use Rattle.isp_typed.specs.Typed.{t_library, t_packed_store, t_packed_load, TPlace, t_variable, t_element, TBase, t_whole, t_from, TArgument, t_by_value, t_by_name, TCall}
use Rattle.isp_typed.specs.Typed.{t_called, TArguments, t_no_arguments, t_argument_then, TExprs, t_no_exprs, t_expr_then}
use Rattle.isp_typed.specs.Typed.{TItem, t_plain, t_with_value, t_with_size, TSimple, t_value, t_run, t_assign, t_update, t_step, TFirst, t_first_declare, t_first_simple, TRange}
use Rattle.isp_typed.specs.Typed.{TStmt, t_block, t_declare, t_simple, t_if, t_if_else, t_while, t_do, t_for, t_foreach, t_foreach_active, t_foreach_unique, t_unmasked}
use Rattle.isp_typed.specs.Typed.{t_jump, t_return, t_print, t_assert, TBlock, t_braces, TStmts, t_no_stmts, t_stmt_then, TFunction}
use Rattle.isp_independence.specs.declared.control.Control.{Control}
use Rattle.isp_independence.specs.declared.dependence.Dependence.{Dependence}
use Rattle.isp_independence.specs.declared.dependence.Restriction.TheVariants.{Crossing, Printing, SharedArray, Outside, Turned, Foreach, Return}
use Rattle.isp_independence.specs.Dependences.{at, number_of}
use Rattle.isp_independence.specs.Exits.{by_rate, is_varying}
use Rattle.isp_independence.specs.Control.{start, branch, loop, turn, round}
use Rattle.isp_independence.specs.Crossing.{looks_across}
use Rattle.isp_independence.specs.Independent.{leaves_early_block}

abbrev pub is_earlier : Dependence → Dependence → Bool
is_earlier e d = nat_lt e.span.start d.span.start || (e.span.start == d.span.start && nat_lt (number_of e.rule) (number_of d.rule))

abbrev pub earlier : Dependence → Dependence → Dependence
earlier d e = cond (is_earlier e d) e d

abbrev pub first_of : Option Dependence → Option Dependence → Option Dependence
first_of None o = o
first_of (Some d) None = Some d
first_of (Some d) (Some e) = Some (earlier d e)

abbrev pub unless : Bool → Dependence → Option Dependence
unless true d = None
unless false d = Some d

-- of what may be left out, and of several
abbrev pub of_any : {A : Type 0} → (A → Option Dependence) → Option A → Option Dependence
of_any g None = None
of_any g (Some a) = g a

abbrev pub of_each : {A : Type 0} → (A → Option Dependence) → List A → Option Dependence
of_each g [] = None
of_each g (a ∷ rest) = first_of (g a) (of_each g rest)

abbrev mutual
  pub expr_answer : TExpr → Option Dependence
  expr_answer (t_constant v s) = None
  expr_answer (t_program_index s) = None
  expr_answer (t_place p) = place_answer p
  expr_answer (t_convert e x) = expr_answer x
  expr_answer (t_cast x t s) = expr_answer x
  expr_answer (t_unary op x t s) = expr_answer x
  expr_answer (t_binary op x y t s) = first_of (expr_answer x) (expr_answer y)
  expr_answer (t_compare c x y r s) = first_of (expr_answer x) (expr_answer y)
  expr_answer (t_logic l x y r s) = first_of (expr_answer x) (expr_answer y)
  expr_answer (t_choose c x y t s) = first_of (expr_answer c) (first_of (expr_answer x) (expr_answer y))
  expr_answer (t_call c t) = call_answer c
  expr_answer (t_library f e xs t s) = first_of (unless (not (looks_across f)) (at Crossing s)) (values_answer xs)
  -- a packed call finds its element by the instances before
  expr_answer (t_packed_store b x s) = first_of (Some (at Crossing s)) (first_of (base_answer b) (expr_answer x))
  expr_answer (t_packed_load b k s) = first_of (Some (at Crossing s)) (base_answer b)

  pub place_answer : TPlace → Option Dependence
  place_answer (t_variable k t s) = None
  place_answer (t_element a i t s) = expr_answer i

  pub base_answer : TBase → Option Dependence
  base_answer (t_whole a s) = None
  base_answer (t_from a i s) = expr_answer i

  pub argument_answer : TArgument → Option Dependence
  argument_answer (t_by_value x) = expr_answer x
  argument_answer (t_by_name a s) = None

  pub call_answer : TCall → Option Dependence
  call_answer (t_called f xs s) = arguments_answer xs

  pub arguments_answer : TArguments → Option Dependence
  arguments_answer t_no_arguments = None
  arguments_answer (t_argument_then x xs) = first_of (argument_answer x) (arguments_answer xs)

  pub values_answer : TExprs → Option Dependence
  values_answer t_no_exprs = None
  values_answer (t_expr_then x xs) = first_of (expr_answer x) (values_answer xs)

abbrev pub assigned_answer : Control → TPlace → Span → Option Dependence
assigned_answer w (t_variable k t s) p =
    by_rate t.rate None (first_of (unless (not (nat_lt k w.outside)) (at Outside p)) (unless (not (nat_lt k w.turned)) (at Turned p)))
assigned_answer w (t_element a i t s) p = None

-- what stands before a semicolon
abbrev pub simple_answer : Control → TSimple → Option Dependence
simple_answer w (t_value x) = expr_answer x
simple_answer w (t_run c) = call_answer c
simple_answer w (t_assign q x s) = first_of (place_answer q) (first_of (expr_answer x) (assigned_answer w q s))
simple_answer w (t_update op e q x s) = first_of (place_answer q) (first_of (expr_answer x) (assigned_answer w q s))
simple_answer w (t_step op e q s) = first_of (place_answer q) (assigned_answer w q s)

-- a declaration is no assignment
abbrev pub item_answer : TItem → Option Dependence
item_answer (t_plain k t s) = None
item_answer (t_with_value k t x s) = expr_answer x
item_answer (t_with_size a s) = unless (is_varying a.ty.rate) (at SharedArray s)

abbrev pub first_answer : Control → TFirst → Option Dependence
first_answer w (t_first_declare is s) = of_each item_answer is
first_answer w (t_first_simple p) = simple_answer w p

abbrev pub range_answer : TRange → Option Dependence
range_answer r = first_of (expr_answer r.start) (expr_answer r.end)

abbrev mutual
  pub stmt_answer : Control → TStmt → Option Dependence
  stmt_answer w (t_block b) = block_answer w b
  stmt_answer w (t_declare is s) = of_each item_answer is
  stmt_answer w (t_simple p s) = simple_answer w p
  stmt_answer w (t_if f n x a s) = first_of (expr_answer x) (stmt_answer (branch (rate_of x) n w) a)
  stmt_answer w (t_if_else f n x a b s) = first_of (expr_answer x) (first_of (stmt_answer (branch (rate_of x) n w) a) (stmt_answer (branch (rate_of x) n w) b))
  stmt_answer w (t_while f n x a s) = first_of (expr_answer x) (stmt_answer (turn n a (loop (Some (rate_of x)) n a w)) a)
  stmt_answer w (t_do f n a x s) = first_of (stmt_answer (turn n a (loop (Some (rate_of x)) n a w)) a) (expr_answer x)
  stmt_answer w (t_for f n i x p m a s) = first_of (of_any (first_answer (loop (option_map rate_of x) n a w)) i)
      (first_of (of_any expr_answer x) (first_of (of_any (simple_answer (loop (option_map rate_of x) n a w)) p)
      (stmt_answer (turn m a (loop (option_map rate_of x) n a w)) a)))
  -- the whole gang comes to a `foreach`
  stmt_answer w (t_foreach k n rs a s) = first_of (unless (not (w.incomplete || w.varying)) (at Foreach k)) (first_of (of_each range_answer rs) (stmt_answer (round n w) a))
  stmt_answer w (t_foreach_active k n i a s) = first_of (Some (at Crossing k)) (stmt_answer w a)
  stmt_answer w (t_foreach_unique k n i e x a s) = first_of (Some (at Crossing k)) (first_of (expr_answer x) (stmt_answer w a))
  stmt_answer w (t_unmasked k b s) = first_of (Some (at Crossing k)) (block_answer w b)
  stmt_answer w (t_jump j k s) = None
  -- all return a uniform result
  stmt_answer w (t_return k x s) = first_of (unless (not (w.together && w.varying)) (at Return k)) (of_any expr_answer x)
  stmt_answer w (t_print k t xs s) = first_of (Some (at Printing k)) (of_each expr_answer xs)
  stmt_answer w (t_assert x c s) = expr_answer x

  pub block_answer : Control → TBlock → Option Dependence
  block_answer w (t_braces ss s) = stmts_answer w ss

  pub stmts_answer : Control → TStmts → Option Dependence
  stmts_answer w t_no_stmts = None
  stmts_answer w (t_stmt_then s ss) = first_of (stmt_answer w s) (stmts_answer w ss)

-- ---- functions: one that is called, and the entry

abbrev pub called_answer : TFunction → Option Dependence
called_answer g = block_answer (start true g) g.body

abbrev pub entry_answer : TFunction → Option Dependence
entry_answer g = block_answer (start (leaves_early_block (start false g) g.body) g) g.body
