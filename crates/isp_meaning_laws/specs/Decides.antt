-- What decides what code comes to over a set: what the gang and its members hold. And for whom it runs: never for nobody.
use Rattle.std.specs.Prelude.{◌≡◌, ℕ, List, true}
use Rattle.isp_base.specs.Sets.{Mask, any}
use Rattle.isp_base.specs.Types.{gang_width}
use Rattle.isp_base.specs.declared.types.Span.{Span}
use Rattle.isp_typed.specs.Typed.{TExpr, TStmt, Program}
use Rattle.isp_meaning.specs.Expressions.{Passed, Calls, value}
use Rattle.isp_meaning.specs.Laws.{Masked}
use Rattle.isp_meaning.specs.Outcomes.{Val, Gives, Fails, Stops, Res, Went, Trapped, Cut}
use Rattle.isp_meaning.specs.Payloads.{Payload}
use Rattle.isp_meaning.specs.State.{State, Frame}
use Rattle.isp_meaning.specs.Statements.{run}
use Rattle.isp_meaning_laws.specs.Members.{value_over, run_over}

-- Two states are alike for a set: all that is the gang's is the same, and all that is a member's. Of other instances nothing is said.
pub record Alike (a : Mask) (s t : State) : Type 0 where
  pub uniforms : s.uniforms ≡ t.uniforms
  pub varying : (v p : ℕ) → a p ≡ true → s.varying v p ≡ t.varying v p
  pub own : (v e p : ℕ) → a p ≡ true → s.own v e p ≡ t.own v e p
  pub result : s.result ≡ t.result
  pub results : (p : ℕ) → a p ≡ true → s.results p ≡ t.results p
  pub arrays : s.arrays ≡ t.arrays
  pub out : s.out ≡ t.out
  pub work : s.work ≡ t.work

-- the same value in the same instances, the same trap, or a cut
abbrev pub SameValue : Mask → Val Payload → Val Payload → Type 0
SameValue a (Gives x s) (Gives y t) = (x ≡ y) × Alike a s t
SameValue a (Fails e s) (Fails d t) = (e ≡ d) × Alike a s t
SameValue a (Stops s) (Stops t) = Alike a s t
SameValue a v w = ⊥

-- who went on, broke, continued, returned
abbrev pub Ways : Type 0
Ways = Mask × Mask × Mask × Mask

abbrev pub ways : Mask → Mask → Mask → Mask → Ways
ways g b c r = (g, b, c, r)

-- the same instances go on, break, continue and return
abbrev pub SameEnd : Mask → Res → Res → Type 0
SameEnd a (Went s g b c r) (Went t g1 b1 c1 r1) = (ways g b c r ≡ ways g1 b1 c1 r1) × Alike a s t
SameEnd a (Trapped e s) (Trapped d t) = (e ≡ d) × Alike a s t
SameEnd a (Cut s) (Cut t) = Alike a s t
SameEnd a v w = ⊥

-- What instances outside the set hold decides nothing: no value, no way, no trap, no store, no output and no work. In a `foreach` and
-- an `unmasked` all instances take part, so none may stand in the statement. In what it calls they may: there all variables are new.
pub record MembersDecide : Type 0 where
  pub expression : (program : Program) (most levels : ℕ) (frame : Frame) (x : TExpr) (a : Mask) (s t : State)
      → any (gang_width program.gang) a ≡ true → Alike a s t
      → SameValue a (value_over program most levels frame x a s) (value_over program most levels frame x a t)
  pub statement : (program : Program) (most levels : ℕ) (frame : Frame) (x : TStmt) (a : Mask) (s t : State)
      → Masked x → any (gang_width program.gang) a ≡ true → Alike a s t
      → SameEnd a (run_over program most levels frame x a s) (run_over program most levels frame x a t)

-- ---- a set with a member is never left for an empty one

-- calls that do the same over each set with a member; over an empty set they may differ
abbrev pub SameWithMembers : ℕ → Calls → Calls → Type 0
SameWithMembers gang calls other =
    (f : ℕ) (sp : Span) (a : Mask) (xs : List Passed) (frame : Frame) (s : State) → any gang a ≡ true → calls f sp a xs frame s ≡ other f sp a xs frame s

-- A call may stand anywhere in an expression or a statement. Over a set with a member, what calls would do over an empty set plays no
-- part: none is made there. So no operand, branch, turn or round, and nothing after a statement, runs for nobody.
pub record NobodyRuns : Type 0 where
  pub expression : (gang : ℕ) (frame : Frame) (calls other : Calls) (x : TExpr) (a : Mask) (s : State)
      → SameWithMembers gang calls other → any gang a ≡ true → value gang frame calls x a s ≡ value gang frame other x a s
  pub statement : (gang : ℕ) (frame : Frame) (calls other : Calls) (most : ℕ) (x : TStmt) (a : Mask) (s : State)
      → SameWithMembers gang calls other → any gang a ≡ true → run gang frame calls most x a s ≡ run gang frame other most x a s
