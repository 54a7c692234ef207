-- Independent entries: no restriction is broken in the entry, nor in a function that is called from it.
use Rattle.std.specs.Prelude.{◌≡◌, ◌⊎◌, ℕ, List, Option, Some, Bool, true, false, ◌||◌, option_map, slice_get, length}
use Rattle.isp_independence.specs.declared.dependence.Dependence.{Dependence}
use Rattle.isp_typed.specs.Typed.{rate_of, TStmt, t_block, t_declare, t_simple, t_if, t_if_else, t_while, t_do, t_for, t_foreach, t_foreach_active, t_foreach_unique, t_unmasked}
use Rattle.isp_typed.specs.Typed.{t_jump, t_return, t_print, t_assert, TBlock, t_braces, TStmts, t_no_stmts, t_stmt_then, TFunction, Program}
use Rattle.isp_independence.specs.declared.control.Control.{Control}
use Rattle.isp_independence.specs.Dependences.{Answered}
use Rattle.isp_independence.specs.Control.{start, branch, loop, turn, round}
use Rattle.isp_independence.specs.Statements.{BlockDepends}
use Rattle.isp_independence.specs.Reaches.{Calls, Reaches}

-- a `return` under varying control stands in it: some may leave the function before others
abbrev mutual
  pub leaves_early : Control → TStmt → Bool
  leaves_early w (t_block b) = leaves_early_block w b
  leaves_early w (t_declare is s) = false
  leaves_early w (t_simple p s) = false
  leaves_early w (t_if f n x a s) = leaves_early (branch (rate_of x) n w) a
  leaves_early w (t_if_else f n x a b s) = leaves_early (branch (rate_of x) n w) a || leaves_early (branch (rate_of x) n w) b
  leaves_early w (t_while f n x a s) = leaves_early (turn n a (loop (Some (rate_of x)) n a w)) a
  leaves_early w (t_do f n a x s) = leaves_early (turn n a (loop (Some (rate_of x)) n a w)) a
  leaves_early w (t_for f n i x p m a s) = leaves_early (turn m a (loop (option_map rate_of x) n a w)) a
  leaves_early w (t_foreach k n rs a s) = leaves_early (round n w) a
  leaves_early w (t_foreach_active k n i a s) = leaves_early w a
  leaves_early w (t_foreach_unique k n i e x a s) = leaves_early w a
  leaves_early w (t_unmasked k b s) = leaves_early_block w b
  leaves_early w (t_jump j k s) = false
  leaves_early w (t_return k x s) = w.varying
  leaves_early w (t_print k t xs s) = false
  leaves_early w (t_assert x c s) = false

  pub leaves_early_block : Control → TBlock → Bool
  leaves_early_block w (t_braces ss s) = leaves_early_stmts w ss

  pub leaves_early_stmts : Control → TStmts → Bool
  leaves_early_stmts w t_no_stmts = false
  leaves_early_stmts w (t_stmt_then s ss) = leaves_early w s || leaves_early_stmts w ss

-- of a function that is called: a part of the gang may call it
abbrev pub CalledDepends : TFunction → Dependence → Type 0
CalledDepends g = BlockDepends (start true g) g.body

-- of the entry: the whole gang begins it, and is there as long as none leaves early
abbrev pub EntryDepends : TFunction → Dependence → Type 0
EntryDepends g = BlockDepends (start (leaves_early_block (start false g) g.body) g) g.body

-- the entry, or a function that it reaches, calls this one
pub record IsCalled (fs : List TFunction) (entry called : ℕ) : Type 0 where
  pub caller : ℕ
  pub reached : Reaches fs entry caller
  pub calls : Calls fs caller called

-- an entry that is called again is judged as both
abbrev pub Depends : Program → ℕ → Dependence → Type 0
Depends p f d =
    ((g : TFunction) × (slice_get p.functions f ≡ Some g) × EntryDepends g d)
    ⊎ ((h : ℕ) × (g : TFunction) × IsCalled p.functions f h × (slice_get p.functions h ≡ Some g) × CalledDepends g d)

abbrev pub IsIndependent : Program → ℕ → Type 0
IsIndependent p f = (d : Dependence) → Depends p f d → ⊥

-- for each function, by its number, the first breach of it as an entry, nothing where it is independent
pub record AreDependences (p : Program) (all : List (Option Dependence)) : Type 0 where
  pub long : length all ≡ length p.functions
  pub each : (f : ℕ) (o : Option Dependence) → slice_get all f ≡ Some o → Answered o (Depends p f)
