-- What is known before a statement is known wherever its body runs, each time, and after a statement what is known there: of a body nothing
-- counts but what it does where all is as known, so another that does the same there may stand in its place. A `foreach` begins with its
-- indices alone, and an `unmasked` with nothing known.
use Rattle.std.specs.Prelude.{◌≡◌, ℕ, List, Option}
use Rattle.isp_base.specs.Sets.{Mask}
use Rattle.isp_base.specs.declared.types.Span.{Span}
use Rattle.isp_base.specs.declared.types.Ty.{Ty}
use Rattle.isp_tree.specs.declared.stmt.Form.{Form}
use Rattle.std.specs.List.{All}
use Rattle.isp_typed.specs.Fine.{FineRange, FineStmt}
use Rattle.isp_typed.specs.Scoped.{Scope, RangesAt}
use Rattle.isp_steady.specs.Indices.{known_indices, indices_of}
use Rattle.isp_typed.specs.Typed.{TExpr, TSimple, TFirst, TStmt, t_if, t_if_else, t_while, t_do, t_for, t_foreach_active, TStmts, t_stmt_then, t_foreach, TRange}
use Rattle.isp_typed.specs.declared.variable.Variable.{Variable}
use Rattle.isp_meaning.specs.Outcomes.{Res}
use Rattle.isp_meaning.specs.State.{State}
use Rattle.isp_steady.specs.Known.{Known, IsPart}
use Rattle.isp_steady.specs.Code.{Where, run_of, run_list}
use Rattle.isp_steady.specs.Assigns.{assigns, all_assign}
use Rattle.isp_steady.specs.Kept.{AreUnset}
use Rattle.isp_steady.specs.Declared.{AreThere, AreKnown, behind}

-- two bodies do the same over each set of some of the members that is not empty, from each state that is as known
abbrev pub DoAlike : Where → List Variable → (ℕ → Known) → Mask → (f g : Mask → State → Res) → Type 0
DoAlike w vars known a f g = (b : Mask) (s : State) → IsPart b a → AreThere w b → AreKnown vars known b s → f b s ≡ g b s

module _ (w : Where) (vars : List Variable) (known : ℕ → Known) (a : Mask) (s : State) where
  -- Where all is as known before a statement, which sets nothing that is known, it does with another body what it does with this one, if
  -- the two do alike.
  abbrev pub MayStandFor : (y z : TStmt) → (around : TStmt → TStmt) → Type 0
  MayStandFor y z around =
      AreThere w a → AreUnset known (assigns (around y)) → AreKnown vars known a s → DoAlike w vars known a (run_of w y) (run_of w z) → run_of w (around y) a s ≡ run_of w (around z) a s

  pub record BodiesAreKnown : Type 0 where
    pub branch : (f : Form) (k : ℕ) (e : TExpr) (y z : TStmt) (sp : Span) → MayStandFor y z (λ b. t_if f k e b sp)
    pub first : (f : Form) (k : ℕ) (e : TExpr) (y z x : TStmt) (sp : Span) → MayStandFor y z (λ b. t_if_else f k e b x sp)
    pub second : (f : Form) (k : ℕ) (e : TExpr) (y z x : TStmt) (sp : Span) → MayStandFor y z (λ b. t_if_else f k e x b sp)
    pub turn : (f : Form) (k : ℕ) (e : TExpr) (y z : TStmt) (sp : Span) → MayStandFor y z (λ b. t_while f k e b sp)
    pub first_turn : (f : Form) (k : ℕ) (e : TExpr) (y z : TStmt) (sp : Span) → MayStandFor y z (λ b. t_do f k b e sp)
    pub counted : (f : Form) (k : ℕ) (i : Option TFirst) (e : Option TExpr) (step : Option TSimple) (n : ℕ) (y z : TStmt) (sp : Span) → MayStandFor y z (λ b. t_for f k i e step n b sp)
    pub active : (at : Span) (k i : ℕ) (y z : TStmt) (sp : Span) → MayStandFor y z (λ b. t_foreach_active at k i b sp)
    -- the rest of a list of statements
    pub rest : (answer : Option Ty) (x : TStmt) (ys zs : TStmts) → FineStmt w.program.functions vars answer x
        → AreThere w a → AreUnset known (all_assign (t_stmt_then x ys)) → AreKnown vars known a s
        → DoAlike w vars (behind (all_assign ys) known x) a (run_list w ys) (run_list w zs)
        → run_list w (t_stmt_then x ys) a s ≡ run_list w (t_stmt_then x zs) a s

-- The body of a `foreach` runs where its indices are known, over instances of the gang, somebody among them; what was known before counts
-- for nothing.
abbrev pub KnownInForeach : Type 0
KnownInForeach =
    (w : Where) (a : Mask) (s : State) (vars : List Variable) (scope : Scope) (n : ℕ) (at : Span) (k : ℕ) (rs : List TRange) (y z : TStmt) (sp : Span)
    → All (FineRange w.program.functions vars) rs
    → RangesAt scope n rs
    → ((b : Mask) (s1 : State) → AreThere w b → AreKnown vars (known_indices (indices_of rs)) b s1 → run_of w y b s1 ≡ run_of w z b s1)
    → run_of w (t_foreach at k rs y sp) a s ≡ run_of w (t_foreach at k rs z sp) a s

abbrev pub KnownInBodies : Type 0
KnownInBodies = (w : Where) (vars : List Variable) (known : ℕ → Known) (a : Mask) (s : State) → BodiesAreKnown w vars known a s
