-- The restrictions of independent entries, statement by statement. One line for each kind.
use Rattle.std.specs.Prelude.{◌≡◌, ◌⊎◌, not, ◌&&◌, ◌||◌, nat_lt, Some, option_map}
use Rattle.isp_base.specs.declared.types.Rate.TheVariants.{Uniform}
use Rattle.isp_base.specs.declared.types.Span.{Span}
use Rattle.isp_independence.specs.declared.dependence.Dependence.{Dependence}
use Rattle.isp_independence.specs.declared.dependence.Restriction.TheVariants.{Crossing, Printing, SharedArray, Outside, Turned, Foreach, Return}
use Rattle.isp_typed.specs.Typed.{rate_of, TPlace, t_variable, t_element, TItem, t_plain, t_with_value, t_with_size, TSimple, t_value, t_run, t_assign, t_update, t_step, TFirst, t_first_declare, t_first_simple, TRange}
use Rattle.isp_typed.specs.Typed.{TStmt, t_block, t_declare, t_simple, t_if, t_if_else, t_while, t_do, t_for, t_foreach, t_foreach_active, t_foreach_unique}
use Rattle.isp_typed.specs.Typed.{t_unmasked, t_jump, t_return, t_print, t_assert, TBlock, t_braces, TStmts, t_no_stmts, t_stmt_then}
use Rattle.isp_independence.specs.Dependences.{at, Unmet, OfAny, OfEach}
use Rattle.isp_independence.specs.Exits.{is_varying}
use Rattle.isp_independence.specs.declared.control.Control.{Control}
use Rattle.isp_independence.specs.Control.{branch, loop, turn, round}
use Rattle.isp_independence.specs.Crossing.{Cross, CrossPlace, CrossCall}

-- A uniform variable is assigned by all that have it: none of those may be missing who were there when it was declared,
-- be it that they took another branch, left a loop, are off in a run of a `foreach`, or went on with the next turn.
-- Elements are free.
abbrev pub Assigned : Control → TPlace → Span → Dependence → Type 0
Assigned w (t_variable k t s) p d =
    (t.rate ≡ Uniform) × (Unmet (not (nat_lt k w.outside)) (at Outside p) d ⊎ Unmet (not (nat_lt k w.turned)) (at Turned p) d)
Assigned w (t_element a i t s) p d = ⊥

-- what stands before a semicolon
abbrev pub SimpleDepends : Control → TSimple → Dependence → Type 0
SimpleDepends w (t_value x) d = Cross x d
SimpleDepends w (t_run c) d = CrossCall c d
SimpleDepends w (t_assign q x s) d = CrossPlace q d ⊎ Cross x d ⊎ Assigned w q s d
SimpleDepends w (t_update op e q x s) d = CrossPlace q d ⊎ Cross x d ⊎ Assigned w q s d
SimpleDepends w (t_step op e q s) d = CrossPlace q d ⊎ Assigned w q s d

-- a declaration is no assignment
abbrev pub ItemDepends : TItem → Dependence → Type 0
ItemDepends (t_plain k t s) d = ⊥
ItemDepends (t_with_value k t x s) d = Cross x d
ItemDepends (t_with_size a s) d = Unmet (is_varying a.ty.rate) (at SharedArray s) d

abbrev pub FirstDepends : Control → TFirst → Dependence → Type 0
FirstDepends w (t_first_declare is s) d = OfEach ItemDepends is d
FirstDepends w (t_first_simple p) d = SimpleDepends w p d

abbrev pub RangeDepends : TRange → Dependence → Type 0
RangeDepends r d = Cross r.start d ⊎ Cross r.end d

abbrev mutual
  pub StmtDepends : Control → TStmt → Dependence → Type 0
  StmtDepends w (t_block b) d = BlockDepends w b d
  StmtDepends w (t_declare is s) d = OfEach ItemDepends is d
  StmtDepends w (t_simple p s) d = SimpleDepends w p d
  StmtDepends w (t_if f n x a s) d = Cross x d ⊎ StmtDepends (branch (rate_of x) n w) a d
  StmtDepends w (t_if_else f n x a b s) d = Cross x d ⊎ StmtDepends (branch (rate_of x) n w) a d ⊎ StmtDepends (branch (rate_of x) n w) b d
  StmtDepends w (t_while f n x a s) d = Cross x d ⊎ StmtDepends (turn n a (loop (Some (rate_of x)) n a w)) a d
  StmtDepends w (t_do f n a x s) d = StmtDepends (turn n a (loop (Some (rate_of x)) n a w)) a d ⊎ Cross x d
  StmtDepends w (t_for f n i x p m a s) d =
      OfAny (FirstDepends (loop (option_map rate_of x) n a w)) i d ⊎ OfAny Cross x d
      ⊎ OfAny (SimpleDepends (loop (option_map rate_of x) n a w)) p d ⊎ StmtDepends (turn m a (loop (option_map rate_of x) n a w)) a d
  -- the whole gang comes to a `foreach`
  StmtDepends w (t_foreach k n rs a s) d =
      Unmet (not (w.incomplete || w.varying)) (at Foreach k) d ⊎ OfEach RangeDepends rs d ⊎ StmtDepends (round n w) a d
  StmtDepends w (t_foreach_active k n i a s) d = (d ≡ at Crossing k) ⊎ StmtDepends w a d
  StmtDepends w (t_foreach_unique k n i e x a s) d = (d ≡ at Crossing k) ⊎ Cross x d ⊎ StmtDepends w a d
  StmtDepends w (t_unmasked k b s) d = (d ≡ at Crossing k) ⊎ BlockDepends w b d
  StmtDepends w (t_jump j k s) d = ⊥
  -- all return a uniform result
  StmtDepends w (t_return k x s) d = Unmet (not (w.together && w.varying)) (at Return k) d ⊎ OfAny Cross x d
  StmtDepends w (t_print k t xs s) d = (d ≡ at Printing k) ⊎ OfEach Cross xs d
  StmtDepends w (t_assert x c s) d = Cross x d

  pub BlockDepends : Control → TBlock → Dependence → Type 0
  BlockDepends w (t_braces ss s) d = StmtsDepends w ss d

  pub StmtsDepends : Control → TStmts → Dependence → Type 0
  StmtsDepends w t_no_stmts d = ⊥
  StmtsDepends w (t_stmt_then s ss) d = StmtDepends w s d ⊎ StmtsDepends w ss d
