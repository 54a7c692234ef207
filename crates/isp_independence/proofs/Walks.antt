-- The breach that is answered of a node is the first of its breaches.
use Rattle.std.specs.Prelude.{true, false, not, nat_lt, ◌&&◌, ◌||◌, Some, option_map}
use Rattle.isp_base.specs.declared.types.Span.{Span}
use Rattle.isp_typed.specs.Typed.{rate_of, TExpr, t_constant, t_program_index, t_place, t_convert, t_cast, t_unary, t_binary, t_compare, t_logic, t_choose, t_call}
use Rattle.isp_typed.specs.Typed.{t_library, t_packed_store, t_packed_load, TPlace, t_variable, t_element, TBase, t_whole, t_from, TArgument, t_by_value, t_by_name, TCall}
use Rattle.isp_typed.specs.Typed.{t_called, TArguments, t_no_arguments, t_argument_then, TExprs, t_no_exprs, t_expr_then}
use Rattle.isp_typed.specs.Typed.{TItem, t_plain, t_with_value, t_with_size, TSimple, t_value, t_run, t_assign, t_update, t_step, TFirst, t_first_declare, t_first_simple, TRange}
use Rattle.isp_typed.specs.Typed.{TStmt, t_block, t_declare, t_simple, t_if, t_if_else, t_while, t_do, t_for, t_foreach, t_foreach_active, t_foreach_unique, t_unmasked}
use Rattle.isp_typed.specs.Typed.{t_jump, t_return, t_print, t_assert, TBlock, t_braces, TStmts, t_no_stmts, t_stmt_then, TFunction}
use Rattle.isp_independence.specs.declared.control.Control.{Control}
use Rattle.isp_independence.specs.declared.dependence.Restriction.TheVariants.{Crossing, Printing, SharedArray, Outside, Turned, Foreach, Return}
use Rattle.isp_independence.specs.Dependences.{at, Answered}
use Rattle.isp_independence.specs.Exits.{is_varying}
use Rattle.isp_independence.specs.Control.{start, branch, loop, turn, round}
use Rattle.isp_independence.specs.Crossing.{looks_across, Cross, CrossPlace, CrossBase, CrossArgument, CrossCall, CrossArguments, CrossAll}
use Rattle.isp_independence.specs.Statements.{Assigned, SimpleDepends, ItemDepends, FirstDepends, RangeDepends, StmtDepends, BlockDepends, StmtsDepends}
use Rattle.isp_independence.specs.Independent.{leaves_early_block, CalledDepends, EntryDepends}
use Rattle.isp_independence.specs.reader.Answers.{assigned_answer, expr_answer, place_answer, base_answer, argument_answer, call_answer, arguments_answer, values_answer, simple_answer}
use Rattle.isp_independence.specs.reader.Answers.{item_answer, first_answer, range_answer, stmt_answer, block_answer, stmts_answer, called_answer, entry_answer}
use Rattle.isp_independence.proofs.Answered.{none_answered, unmet_answered, either_answered, some_answered, uniform_answered, any_answered, each_answered}

mutual
  expr_answered : (x : TExpr) → Answered (expr_answer x) (Cross x)
  expr_answered (t_constant v s) = none_answered
  expr_answered (t_program_index s) = none_answered
  expr_answered (t_place p) = place_answered p
  expr_answered (t_convert e x) = expr_answered x
  expr_answered (t_cast x t s) = expr_answered x
  expr_answered (t_unary op x t s) = expr_answered x
  expr_answered (t_binary op x y t s) = either_answered _ _ _ _ (expr_answered x) (expr_answered y)
  expr_answered (t_compare c x y r s) = either_answered _ _ _ _ (expr_answered x) (expr_answered y)
  expr_answered (t_logic l x y r s) = either_answered _ _ _ _ (expr_answered x) (expr_answered y)
  expr_answered (t_choose c x y t s) = either_answered _ _ _ _ (expr_answered c) (either_answered _ _ _ _ (expr_answered x) (expr_answered y))
  expr_answered (t_call c t) = call_answered c
  expr_answered (t_library f e xs t s) = either_answered _ _ _ _ (unmet_answered (not (looks_across f)) (at Crossing s)) (values_answered xs)
  expr_answered (t_packed_store b x s) = either_answered _ _ _ _ (some_answered (at Crossing s)) (either_answered _ _ _ _ (base_answered b) (expr_answered x))
  expr_answered (t_packed_load b k s) = either_answered _ _ _ _ (some_answered (at Crossing s)) (base_answered b)

  place_answered : (p : TPlace) → Answered (place_answer p) (CrossPlace p)
  place_answered (t_variable k t s) = none_answered
  place_answered (t_element a i t s) = expr_answered i

  base_answered : (b : TBase) → Answered (base_answer b) (CrossBase b)
  base_answered (t_whole a s) = none_answered
  base_answered (t_from a i s) = expr_answered i

  argument_answered : (x : TArgument) → Answered (argument_answer x) (CrossArgument x)
  argument_answered (t_by_value x) = expr_answered x
  argument_answered (t_by_name a s) = none_answered

  call_answered : (c : TCall) → Answered (call_answer c) (CrossCall c)
  call_answered (t_called f xs s) = arguments_answered xs

  arguments_answered : (xs : TArguments) → Answered (arguments_answer xs) (CrossArguments xs)
  arguments_answered t_no_arguments = none_answered
  arguments_answered (t_argument_then x xs) = either_answered _ _ _ _ (argument_answered x) (arguments_answered xs)

  values_answered : (xs : TExprs) → Answered (values_answer xs) (CrossAll xs)
  values_answered t_no_exprs = none_answered
  values_answered (t_expr_then x xs) = either_answered _ _ _ _ (expr_answered x) (values_answered xs)

assigned_answered : (w : Control) (q : TPlace) (p : Span) → Answered (assigned_answer w q p) (Assigned w q p)
assigned_answered w (t_variable k t s) p =
    uniform_answered t.rate _ _ (either_answered _ _ _ _ (unmet_answered (not (nat_lt k w.outside)) (at Outside p)) (unmet_answered (not (nat_lt k w.turned)) (at Turned p)))
assigned_answered w (t_element a i t s) p = none_answered

simple_answered : (w : Control) (x : TSimple) → Answered (simple_answer w x) (SimpleDepends w x)
simple_answered w (t_value x) = expr_answered x
simple_answered w (t_run c) = call_answered c
simple_answered w (t_assign q x s) = either_answered _ _ _ _ (place_answered q) (either_answered _ _ _ _ (expr_answered x) (assigned_answered w q s))
simple_answered w (t_update op e q x s) = either_answered _ _ _ _ (place_answered q) (either_answered _ _ _ _ (expr_answered x) (assigned_answered w q s))
simple_answered w (t_step op e q s) = either_answered _ _ _ _ (place_answered q) (assigned_answered w q s)

item_answered : (x : TItem) → Answered (item_answer x) (ItemDepends x)
item_answered (t_plain k t s) = none_answered
item_answered (t_with_value k t x s) = expr_answered x
item_answered (t_with_size a s) = unmet_answered (is_varying a.ty.rate) (at SharedArray s)

first_answered : (w : Control) (x : TFirst) → Answered (first_answer w x) (FirstDepends w x)
first_answered w (t_first_declare is s) = each_answered item_answer ItemDepends item_answered is
first_answered w (t_first_simple p) = simple_answered w p

range_answered : (r : TRange) → Answered (range_answer r) (RangeDepends r)
range_answered r = either_answered _ _ _ _ (expr_answered r.start) (expr_answered r.end)

mutual
  stmt_answered : (w : Control) (x : TStmt) → Answered (stmt_answer w x) (StmtDepends w x)
  stmt_answered w (t_block b) = block_answered w b
  stmt_answered w (t_declare is s) = each_answered item_answer ItemDepends item_answered is
  stmt_answered w (t_simple p s) = simple_answered w p
  stmt_answered w (t_if f n x a s) = either_answered _ _ _ _ (expr_answered x) (stmt_answered (branch (rate_of x) n w) a)
  stmt_answered w (t_if_else f n x a b s) =
      either_answered _ _ _ _ (expr_answered x) (either_answered _ _ _ _ (stmt_answered (branch (rate_of x) n w) a) (stmt_answered (branch (rate_of x) n w) b))
  stmt_answered w (t_while f n x a s) = either_answered _ _ _ _ (expr_answered x) (stmt_answered (turn n a (loop (Some (rate_of x)) n a w)) a)
  stmt_answered w (t_do f n a x s) = either_answered _ _ _ _ (stmt_answered (turn n a (loop (Some (rate_of x)) n a w)) a) (expr_answered x)
  stmt_answered w (t_for f n i x p m a s) =
      let l = loop (option_map rate_of x) n a w in
      either_answered _ _ _ _ (any_answered (first_answer l) (FirstDepends l) (first_answered l) i)
      (either_answered _ _ _ _ (any_answered expr_answer Cross expr_answered x)
      (either_answered _ _ _ _ (any_answered (simple_answer l) (SimpleDepends l) (simple_answered l) p) (stmt_answered (turn m a l) a)))
  stmt_answered w (t_foreach k n rs a s) =
      either_answered _ _ _ _ (unmet_answered (not (w.incomplete || w.varying)) (at Foreach k))
      (either_answered _ _ _ _ (each_answered range_answer RangeDepends range_answered rs) (stmt_answered (round n w) a))
  stmt_answered w (t_foreach_active k n i a s) = either_answered _ _ _ _ (some_answered (at Crossing k)) (stmt_answered w a)
  stmt_answered w (t_foreach_unique k n i e x a s) =
      either_answered _ _ _ _ (some_answered (at Crossing k)) (either_answered _ _ _ _ (expr_answered x) (stmt_answered w a))
  stmt_answered w (t_unmasked k b s) = either_answered _ _ _ _ (some_answered (at Crossing k)) (block_answered w b)
  stmt_answered w (t_jump j k s) = none_answered
  stmt_answered w (t_return k x s) = either_answered _ _ _ _ (unmet_answered (not (w.together && w.varying)) (at Return k)) (any_answered expr_answer Cross expr_answered x)
  stmt_answered w (t_print k t xs s) = either_answered _ _ _ _ (some_answered (at Printing k)) (each_answered expr_answer Cross expr_answered xs)
  stmt_answered w (t_assert x c s) = expr_answered x

  block_answered : (w : Control) (b : TBlock) → Answered (block_answer w b) (BlockDepends w b)
  block_answered w (t_braces ss s) = stmts_answered w ss

  stmts_answered : (w : Control) (ss : TStmts) → Answered (stmts_answer w ss) (StmtsDepends w ss)
  stmts_answered w t_no_stmts = none_answered
  stmts_answered w (t_stmt_then s ss) = either_answered _ _ _ _ (stmt_answered w s) (stmts_answered w ss)

pub called_answered : (g : TFunction) → Answered (called_answer g) (CalledDepends g)
called_answered g = block_answered (start true g) g.body

pub entry_answered : (g : TFunction) → Answered (entry_answer g) (EntryDepends g)
entry_answered g = block_answered (start (leaves_early_block (start false g) g.body) g) g.body
