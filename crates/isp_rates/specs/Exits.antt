-- Statements: their breaches of rates (30), of exits (31), and a `foreach` in a `foreach` (32). One line for each kind.
use Rattle.std.specs.Prelude.{◌⊎◌, Bool, true, false, not, List, Option, Some, None}
use Rattle.isp_base.specs.declared.types.Rate.{Rate}
use Rattle.isp_base.specs.declared.types.Rate.TheVariants.{Uniform, Varying}
use Rattle.isp_base.specs.declared.types.Ty.{Ty}
use Rattle.isp_lex.specs.declared.fault.Fault.{Fault}
use Rattle.isp_lex.specs.declared.fault.Rule.TheVariants.{BadExit, NestedForeach}
use Rattle.isp_lex.specs.Faults.{fault}
use Rattle.isp_tree.specs.declared.stmt.Jump.{Jump}
use Rattle.isp_tree.specs.declared.stmt.Jump.TheVariants.{Break, Continue}
use Rattle.isp_typed.specs.Typed.{TExpr, place_type, TItem, t_plain, t_with_value, t_with_size, TSimple, t_value, t_run, t_assign, t_update, t_step, TFirst, t_first_declare, t_first_simple, TRange}
use Rattle.isp_typed.specs.Typed.{TStmt, t_block, t_declare, t_simple, t_if, t_if_else, t_while, t_do, t_for, t_foreach, t_foreach_active, t_foreach_unique, t_unmasked}
use Rattle.isp_typed.specs.Typed.{t_jump, t_return, t_print, t_assert, TBlock, t_braces, TStmts, t_no_stmts, t_stmt_then, TFunction}
use Rattle.isp_rates.specs.declared.exits.Around.{Around}
use Rattle.isp_rates.specs.declared.exits.Around.TheVariants.{Body, Loop, Foreach, Turns, Unmasked}
use Rattle.isp_rates.specs.declared.exits.Within.{Within}
use Rattle.isp_rates.specs.Breaches.{Unmet, OfAny, OfEach}
use Rattle.isp_rates.specs.Rates.{DemandBreach, ExprBreach, PlaceBreach, CallBreach}

-- ---- where a statement stands

abbrev pub at_start : Within
at_start = record { nearest = Body; returns = true; in_foreach = false }

abbrev pub in_loop : Within → Within
in_loop w = record { nearest = Loop; returns = w.returns; in_foreach = w.in_foreach }

abbrev pub in_foreach : Within → Within
in_foreach w = record { nearest = Foreach; returns = false; in_foreach = true }

-- of a `foreach_active` or a `foreach_unique`
abbrev pub in_turns : Within → Within
in_turns w = record { nearest = Turns; returns = false; in_foreach = w.in_foreach }

abbrev pub in_unmasked : Within → Within
in_unmasked w = record { nearest = Unmasked; returns = false; in_foreach = w.in_foreach }

-- `break` ends the nearest loop, and `continue` a turn of the nearest loop, `foreach`, `foreach_active` or `foreach_unique`,
-- where no `unmasked` and nothing else of these stands between
abbrev pub may_jump : Jump → Around → Bool
may_jump Break Loop = true
may_jump Break a = false
may_jump Continue Body = false
may_jump Continue Unmasked = false
may_jump Continue a = true

-- a value that is returned has the rate of the result
abbrev pub returned_rate : Option Ty → Rate
returned_rate None = Varying
returned_rate (Some t) = t.rate

-- ---- declared variables, and what stands before a semicolon, in a program of these functions

module _ (fs : List TFunction) where
  abbrev pub ItemBreach : TItem → Fault → Type 0
  ItemBreach (t_plain v t s) f = ⊥
  -- the initial value of a uniform variable is uniform
  ItemBreach (t_with_value v t x s) f = DemandBreach t.rate x (ExprBreach fs x) f
  ItemBreach (t_with_size a s) f = ⊥

  abbrev pub SimpleBreach : TSimple → Fault → Type 0
  SimpleBreach (t_value x) f = ExprBreach fs x f
  SimpleBreach (t_run c) f = CallBreach fs c f
  -- a uniform place takes uniform values alone; with `op=` too it is the right side that is asked
  SimpleBreach (t_assign p x s) f = PlaceBreach fs p f ⊎ DemandBreach (place_type p).rate x (ExprBreach fs x) f
  SimpleBreach (t_update op e p x s) f = PlaceBreach fs p f ⊎ DemandBreach (place_type p).rate x (ExprBreach fs x) f
  -- `++` and `--` add the number 1, which is uniform
  SimpleBreach (t_step op e p s) f = PlaceBreach fs p f

  abbrev pub FirstBreach : TFirst → Fault → Type 0
  FirstBreach (t_first_declare is s) f = OfEach ItemBreach is f
  FirstBreach (t_first_simple p) f = SimpleBreach p f

  -- the bounds of a `foreach` are uniform
  abbrev pub RangeBreach : TRange → Fault → Type 0
  RangeBreach r f = DemandBreach Uniform r.start (ExprBreach fs r.start) f ⊎ DemandBreach Uniform r.end (ExprBreach fs r.end) f

  -- ---- statements, in a function with this result

  module _ (answer : Option Ty) where
    abbrev pub ReturnBreach : TExpr → Fault → Type 0
    ReturnBreach x f = DemandBreach (returned_rate answer) x (ExprBreach fs x) f

    abbrev mutual
      pub StmtBreach : Within → TStmt → Fault → Type 0
      StmtBreach w (t_block b) f = BlockBreach w b f
      StmtBreach w (t_declare is s) f = OfEach ItemBreach is f
      StmtBreach w (t_simple p s) f = SimpleBreach p f
      StmtBreach w (t_if c n x a s) f = ExprBreach fs x f ⊎ StmtBreach w a f
      StmtBreach w (t_if_else c n x a b s) f = ExprBreach fs x f ⊎ StmtBreach w a f ⊎ StmtBreach w b f
      StmtBreach w (t_while c n x a s) f = ExprBreach fs x f ⊎ StmtBreach (in_loop w) a f
      StmtBreach w (t_do c n a x s) f = StmtBreach (in_loop w) a f ⊎ ExprBreach fs x f
      StmtBreach w (t_for c n i x p m a s) f = OfAny FirstBreach i f ⊎ OfAny (ExprBreach fs) x f ⊎ OfAny SimpleBreach p f ⊎ StmtBreach (in_loop w) a f
      -- no `foreach` stands in the body of another
      StmtBreach w (t_foreach k n rs a s) f = Unmet (not w.in_foreach) (fault NestedForeach k) f ⊎ OfEach RangeBreach rs f ⊎ StmtBreach (in_foreach w) a f
      StmtBreach w (t_foreach_active k n i a s) f = StmtBreach (in_turns w) a f
      -- a value of any rate
      StmtBreach w (t_foreach_unique k n i e x a s) f = ExprBreach fs x f ⊎ StmtBreach (in_turns w) a f
      StmtBreach w (t_unmasked k b s) f = BlockBreach (in_unmasked w) b f
      StmtBreach w (t_jump j k s) f = Unmet (may_jump j w.nearest) (fault BadExit k) f
      -- no `return` stands in a `foreach`, a `foreach_active`, a `foreach_unique` or an `unmasked`
      StmtBreach w (t_return k x s) f = Unmet w.returns (fault BadExit k) f ⊎ OfAny ReturnBreach x f
      StmtBreach w (t_print k t xs s) f = OfEach (ExprBreach fs) xs f
      StmtBreach w (t_assert x c s) f = ExprBreach fs x f

      pub BlockBreach : Within → TBlock → Fault → Type 0
      BlockBreach w (t_braces ss s) f = StmtsBreach w ss f

      pub StmtsBreach : Within → TStmts → Fault → Type 0
      StmtsBreach w t_no_stmts f = ⊥
      StmtsBreach w (t_stmt_then s ss) f = StmtBreach w s f ⊎ StmtsBreach w ss f
