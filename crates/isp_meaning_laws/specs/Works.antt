-- The work of what has parts: one for the whole, and that of the parts that run. Straight code, which has no branch, no loop and no call,
-- has the law `straight_work` of isp_meaning.
use Rattle.std.specs.Prelude.{◌≡◌, ℕ, suc, ◌+◌, ◌*◌, ◌≤◌, List, [], ◌∷◌, length, Option, Some, true, false, slice_get}
use Rattle.isp_base.specs.Maps.{Map, where_true}
use Rattle.isp_base.specs.Sets.{Mask, union, without, any}
use Rattle.isp_base.specs.Types.{gang_width}
use Rattle.isp_base.specs.declared.types.Span.{Span}
use Rattle.isp_base.specs.declared.types.Ty.{Ty}
use Rattle.isp_tree.specs.declared.stmt.Form.{Form}
use Rattle.isp_typed.specs.Typed.{TExpr, t_call, TArguments, t_called, TSimple, TFirst, TRange, TStmt, t_if_else, t_while, t_do, t_for, t_foreach, TFunction, Program}
use Rattle.isp_meaning.specs.Calls.{frame_of, begun, calls_at}
use Rattle.isp_meaning.specs.Expressions.{Passed, Calls, value, arguments}
use Rattle.isp_meaning.specs.Nodes.{GivesAfter, WentAfter}
use Rattle.isp_meaning.specs.Outcomes.{Val, Gives, Res, Went, Trapped, Cut, unless_empty}
use Rattle.isp_meaning.specs.Payloads.{One, Each, is_true}
use Rattle.isp_meaning.specs.Rounds.{Range, length_of, runs_of, counted}
use Rattle.isp_meaning.specs.Simple.{first_part, step_part}
use Rattle.isp_meaning.specs.State.{State, Frame, tick}
use Rattle.isp_meaning.specs.Statements.{ranges, test_part, run, block}

-- ---- `if`

pub record WorkOfIf : Type 0 where
  -- by a uniform test the work of one branch
  pub one : (gang : ℕ) (frame : Frame) (calls : Calls) (most : ℕ) (form : Form) (before : ℕ) (e : TExpr) (x y : TStmt) (sp : Span) (a : Mask) (s s1 : State) (c n m : ℕ)
      → value gang frame calls e a (tick s) ≡ Gives (One c) s1 → s1.work ≡ (tick s).work + n
      → (is_true c ≡ true → WentAfter m s1 (run gang frame calls most x a s1)) → (is_true c ≡ false → WentAfter m s1 (run gang frame calls most y a s1))
      → WentAfter (1 + (n + m)) s (run gang frame calls most (t_if_else form before e x y sp) a s)
  -- by a varying one that of both, where a branch that nobody takes has none
  pub both : (gang : ℕ) (frame : Frame) (calls : Calls) (most : ℕ) (form : Form) (before : ℕ) (e : TExpr) (x y : TStmt) (sp : Span) (a : Mask) (s s1 : State) (c : Map) (n m k : ℕ)
      → value gang frame calls e a (tick s) ≡ Gives (Each c) s1 → s1.work ≡ (tick s).work + n
      → WentAfter m s1 (unless_empty gang (where_true is_true c) s1 (run gang frame calls most x))
      → ((s2 : State) → WentAfter k s2 (unless_empty gang (without a (where_true is_true c)) s2 (run gang frame calls most y)))
      → WentAfter (1 + (n + (m + k))) s (run gang frame calls most (t_if_else form before e x y sp) a s)
  pub nobody : (gang : ℕ) (a : Mask) (s : State) (does : Mask → State → Res) → any gang a ≡ false → WentAfter 0 s (unless_empty gang a s does)

-- ---- calls: one, the arguments, and the body of the function

pub record WorkOfCall : Type 0 where
  pub call : (program : Program) (most levels : ℕ) (frame : Frame) (f : ℕ) (g : TFunction) (xs : TArguments) (t : Ty) (sp : Span) (a : Mask) (s s1 : State) (ps : List Passed) (n m : ℕ)
      → slice_get program.functions f ≡ Some g
      → arguments (gang_width program.gang) frame (calls_at program most (suc levels)) xs a (tick s) ≡ Gives ps s1 → s1.work ≡ (tick s).work + n
      → WentAfter m s1 (block (gang_width program.gang) (frame_of g ps frame) (calls_at program most levels) most g.body a (begun g ps frame a s1))
      → GivesAfter (1 + (n + m)) s (value (gang_width program.gang) frame (calls_at program most (suc levels)) (t_call (t_called f xs sp) t) a s)

-- ---- loops

-- over each set with a member and in each state a part has the same work
abbrev pub Always : {A : Type 0} → ℕ → ℕ → (Mask → State → Val A) → Type 0
Always gang n does = (a : Mask) (s : State) → any gang a ≡ true → GivesAfter n s (does a s)

-- after it somebody goes on or continues, so a loop does not end by it
abbrev pub SomebodyLeft : ℕ → Res → Type 0
SomebodyLeft gang (Went s g b c r) = any gang (union g c) ≡ true
SomebodyLeft gang (Trapped t s) = Unit {0}
SomebodyLeft gang (Cut s) = Unit {0}

abbrev pub AlwaysGoesOn : ℕ → ℕ → (Mask → State → Res) → Type 0
AlwaysGoesOn gang n does = (a : Mask) (s : State) → any gang a ≡ true → WentAfter n s (does a s) × SomebodyLeft gang (does a s)

-- what ends has that much work, and that of some turns, of which it makes no more than it may
abbrev pub WentAfterTurns : (most before each : ℕ) → State → Res → Type 0
WentAfterTurns most before each s (Went s1 g b c r) = (k : ℕ) × (k ≤ most) × (s1.work ≡ s.work + (before + k * each))
WentAfterTurns most before each s (Trapped t s1) = Unit {0}
WentAfterTurns most before each s (Cut s1) = Unit {0}

-- A turn counts one, and its body, its step and the test after it. The test of a `while` and of a `for` is taken once more, before the
-- first turn.
pub record WorkOfLoops : Type 0 where
  pub of_while : (gang : ℕ) (frame : Frame) (calls : Calls) (most : ℕ) (form : Form) (before : ℕ) (e : TExpr) (x : TStmt) (sp : Span) (a : Mask) (s : State) (n m : ℕ)
      → any gang a ≡ true → Always gang n (value gang frame calls e) → AlwaysGoesOn gang m (run gang frame calls most x)
      → WentAfterTurns most (1 + n) (1 + (m + n)) s (run gang frame calls most (t_while form before e x sp) a s)
  pub of_do : (gang : ℕ) (frame : Frame) (calls : Calls) (most : ℕ) (form : Form) (before : ℕ) (e : TExpr) (x : TStmt) (sp : Span) (a : Mask) (s : State) (n m : ℕ)
      → any gang a ≡ true → Always gang n (value gang frame calls e) → AlwaysGoesOn gang m (run gang frame calls most x)
      → WentAfterTurns most 1 (1 + (m + n)) s (run gang frame calls most (t_do form before x e sp) a s)
  pub of_for : (gang : ℕ) (frame : Frame) (calls : Calls) (most : ℕ) (form : Form) (before inside : ℕ) (first : Option TFirst) (e : Option TExpr) (step : Option TSimple) (x : TStmt) (sp : Span)
      (a : Mask) (s : State) (f n m k : ℕ)
      → any gang a ≡ true → Always gang f (first_part gang frame calls first) → Always gang n (test_part gang frame calls e)
      → Always gang k (step_part gang frame calls step) → AlwaysGoesOn gang m (run gang frame calls most x)
      → WentAfterTurns most (1 + (f + n)) (1 + (m + (k + n))) s (run gang frame calls most (t_for form before first e step inside x sp) a s)

-- ---- `foreach`

pub record WorkOfForeach : Type 0 where
  -- one range counts its runs; two count the numbers of the outer one, and the runs
  pub one_range : (gang : ℕ) (r : Range) → counted gang 1 (r ∷ []) ≡ length (runs_of gang (r ∷ []))
  pub two_ranges : (gang : ℕ) (q r : Range) → counted gang 1 (q ∷ r ∷ []) ≡ length_of q + length (runs_of gang (q ∷ r ∷ []))
  -- and each run has the work of the body
  pub foreach : (gang : ℕ) (frame : Frame) (calls : Calls) (most : ℕ) (w : Span) (k : ℕ) (rs : List TRange) (x : TStmt) (sp : Span) (a : Mask) (s s1 : State) (qs : List Range) (n m : ℕ)
      → ranges gang frame calls rs a (tick s) ≡ Gives qs s1 → s1.work ≡ (tick s).work + n
      → ((b : Mask) (t : State) → WentAfter m t (run gang frame calls most x b t))
      → WentAfter (1 + (n + (counted gang 1 qs + length (runs_of gang qs) * m))) s (run gang frame calls most (t_foreach w k rs x sp) a s)
