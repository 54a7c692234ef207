-- What the law asks of the statements of a body, where they stand.
--     c    which instances may be missing there        o    what is around
--     v    the variables in scope                      n    the number that the next declaration has
use Rattle.std.specs.Prelude.{◌≡◌, ℕ, ◌<◌, Bool, true, false, not, ◌&&◌, ◌||◌, List, Contains}
use Rattle.isp_lex.specs.declared.fault.Fault.{Fault}
use Rattle.isp_tree.specs.declared.stmt.Jump.TheVariants.{Break, Continue}
use Rattle.isp_typed.specs.declared.variable.Variable.{Variable}
use Rattle.isp_typed.specs.Fine.{FineStmt, FineBlock}
use Rattle.isp_typed.specs.Scoped.{Scope, StmtAt, BlockAt}
use Rattle.isp_typed.specs.Typed.{TStmt, TBlock, TFunction}
use Rattle.isp_rates.specs.declared.exits.Within.{Within as Around}
use Rattle.isp_rates.specs.Exits.{StmtBreach, BlockBreach}
use Rattle.isp_independence.specs.declared.control.Control.{Control}
use Rattle.isp_independence.specs.declared.dependence.Dependence.{Dependence}
use Rattle.isp_independence.specs.Control.{is_together}
use Rattle.isp_independence.specs.Exits.{has, has_block, has_varying, has_varying_block}
use Rattle.isp_independence.specs.Independent.{leaves_early, leaves_early_block}
use Rattle.isp_independence.specs.Reaches.{stmt_calls, block_calls}
use Rattle.isp_independence.specs.Statements.{StmtDepends, BlockDepends}
use Rattle.isp_solo_laws.specs.Stands.{World}
use Rattle.isp_solo_laws.specs.Statements.{Ways, Here}
use Rattle.isp_solo_laws.specs.Acts.{closed_in}

-- ---- where a statement stands

-- nobody returns before others do: all return a uniform result, and where no return is under varying control
abbrev pub joint_of : Control → Bool
joint_of c = c.together || not c.incomplete

-- all that made the call are there
abbrev pub all_there : Control → Around → Bool
all_there c o = not c.varying && (joint_of c && not o.in_foreach)

abbrev pub here_of : Control → Around → Here
here_of c o = record { closed = closed_in c; joint = joint_of c; top = all_there c o }

-- What is known and what is closed was declared before. No `return` stands in a `foreach`. Where the gang is complete all of it
-- made the call.
pub record Stood (w : World) (c : Control) (o : Around) (v : Scope) (n : ℕ) : Type 0 where
  pub below : (k : ℕ) → v k ≡ true → k < n
  pub before : (k : ℕ) → closed_in c k ≡ true → k < n
  pub together : c.together ≡ is_together w.frame.answer
  pub returns : o.in_foreach ≡ true → o.returns ≡ false
  pub everyone : c.incomplete ≡ false → (p : ℕ) → p < w.gang → w.callers p ≡ true

-- ---- how it is left

abbrev pub ways_at : TStmt → Ways
ways_at x = record { breaks = has Break x; continues = has Continue x; some_break = has_varying Break x; some_continue = has_varying Continue x }

abbrev pub ways_in : TBlock → Ways
ways_in b =
    record { breaks = has_block Break b; continues = has_block Continue b; some_break = has_varying_block Break b; some_continue = has_varying_block Continue b }

-- where all are there nobody breaks or continues alone
abbrev pub Quiet : Control → Around → Bool → Bool → Type 0
Quiet c o some_break some_continue = all_there c o ≡ true → (some_break ≡ false) × (some_continue ≡ false)

-- ---- what is asked

-- Names, types, rates and exits accept it, it breaks no rule of independent entries where it stands, its variables are in scope,
-- and it calls nothing but what may be called. Where the gang is complete no return is under varying control.
module _ (w : World) (fs : List TFunction) (vars : List Variable) (IsCallable : ℕ → Type 0) (c : Control) (o : Around) (v : Scope) (n : ℕ) where
  pub record AskedOfStmt (x : TStmt) : Type 0 where
    pub fine : FineStmt fs vars w.frame.answer x
    pub rates : (f : Fault) → StmtBreach fs w.frame.answer o x f → ⊥
    pub alone : (d : Dependence) → StmtDepends c x d → ⊥
    pub known : StmtAt v n x
    pub called : (k : ℕ) → Contains (stmt_calls x) k → IsCallable k
    pub stood : Stood w c o v n
    pub early : c.incomplete ≡ false → leaves_early c x ≡ false
    pub quiet : Quiet c o (has_varying Break x) (has_varying Continue x)

  pub record AskedOfBody (b : TBlock) : Type 0 where
    pub fine : FineBlock fs vars w.frame.answer b
    pub rates : (f : Fault) → BlockBreach fs w.frame.answer o b f → ⊥
    pub alone : (d : Dependence) → BlockDepends c b d → ⊥
    pub known : BlockAt v n b
    pub called : (k : ℕ) → Contains (block_calls b) k → IsCallable k
    pub stood : Stood w c o v n
    pub early : c.incomplete ≡ false → leaves_early_block c b ≡ false
    pub quiet : Quiet c o (has_varying_block Break b) (has_varying_block Continue b)
