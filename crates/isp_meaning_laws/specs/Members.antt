-- Whom a trap names: a member of the set over which the code ran.
use Rattle.std.specs.Prelude.{◌≡◌, ℕ, ◌<◌, List, Some, true, slice_get, Contains}
use Rattle.isp_base.specs.Outcomes.{Traps}
use Rattle.isp_base.specs.Rows.{Row}
use Rattle.isp_base.specs.Sets.{Mask, any, everyone}
use Rattle.isp_base.specs.Types.{gang_width}
use Rattle.isp_base.specs.declared.signature.Argument.{Argument}
use Rattle.isp_base.specs.declared.trap.Trap.{Trap}
use Rattle.isp_typed.specs.Typed.{TExpr, TStmt, TFunction, Program}
use Rattle.isp_independence.specs.Reaches.{Reaches, expr_calls, stmt_calls}
use Rattle.isp_meaning.specs.Calls.{calls_at}
use Rattle.isp_meaning.specs.Expressions.{value}
use Rattle.isp_meaning.specs.Laws.{Masked, MaskedBlock}
use Rattle.isp_meaning.specs.Outcomes.{Val, Gives, Fails, Stops, Res, Went, Trapped, Cut}
use Rattle.isp_meaning.specs.Payloads.{Payload}
use Rattle.isp_meaning.specs.Runs.{run_of}
use Rattle.isp_meaning.specs.State.{State, Frame}
use Rattle.isp_meaning.specs.Statements.{run}

-- an instance of the gang that is in the set
abbrev pub Names : ℕ → Mask → Trap → Type 0
Names gang a t = (t.instance < gang) × (a t.instance ≡ true)

-- its trap, if it traps, names one
abbrev pub FailsIn : ℕ → Mask → Val Payload → Type 0
FailsIn gang a (Gives x s) = Unit {0}
FailsIn gang a (Fails t s) = Names gang a t
FailsIn gang a (Stops s) = Unit {0}

abbrev pub TrapsIn : ℕ → Mask → Res → Type 0
TrapsIn gang a (Went s g b c r) = Unit {0}
TrapsIn gang a (Trapped t s) = Names gang a t
TrapsIn gang a (Cut s) = Unit {0}

-- no `foreach` and no `unmasked`, in which all instances take part, stands in a function that these reach by calls
abbrev pub MaskedFrom : Program → List ℕ → Type 0
MaskedFrom program ks =
    (k j : ℕ) (g : TFunction) → Contains ks k → Reaches program.functions k j → slice_get program.functions j ≡ Some g → MaskedBlock g.body

-- what an expression and a statement come to over a set, with so many levels of calls left
module _ (program : Program) (most levels : ℕ) (frame : Frame) where
  abbrev pub value_over : TExpr → Mask → State → Val Payload
  value_over x a s = value (gang_width program.gang) frame (calls_at program most levels) x a s

  abbrev pub run_over : TStmt → Mask → State → Res
  run_over x a s = run (gang_width program.gang) frame (calls_at program most levels) most x a s

-- The trap of an expression or a statement over a set names a member of that set, whatever it calls, if all that runs is of the
-- set: no `foreach` and no `unmasked` stands in it or in what it calls. With these the trap names an instance of the gang, and so
-- does that of every run. (The set is not empty: over an empty set nothing is evaluated and nothing runs.)
pub record ATrapNamesAMember : Type 0 where
  pub expression : (program : Program) (most levels : ℕ) (frame : Frame) (x : TExpr) (a : Mask) (s : State)
      → MaskedFrom program (expr_calls x) → any (gang_width program.gang) a ≡ true
      → FailsIn (gang_width program.gang) a (value_over program most levels frame x a s)
  pub statement : (program : Program) (most levels : ℕ) (frame : Frame) (x : TStmt) (a : Mask) (s : State)
      → Masked x → MaskedFrom program (stmt_calls x) → any (gang_width program.gang) a ≡ true
      → TrapsIn (gang_width program.gang) a (run_over program most levels frame x a s)
  pub any_expression : (program : Program) (most levels : ℕ) (frame : Frame) (x : TExpr) (a : Mask) (s : State)
      → any (gang_width program.gang) a ≡ true
      → FailsIn (gang_width program.gang) (everyone (gang_width program.gang)) (value_over program most levels frame x a s)
  pub any_statement : (program : Program) (most levels : ℕ) (frame : Frame) (x : TStmt) (a : Mask) (s : State)
      → any (gang_width program.gang) a ≡ true
      → TrapsIn (gang_width program.gang) (everyone (gang_width program.gang)) (run_over program most levels frame x a s)
  pub whole_run : (program : Program) (f most : ℕ) (xs : List Argument) (t : Trap) (arrays : List Row) (out : List ℕ)
      → run_of program f most xs ≡ Traps t arrays out → t.instance < gang_width program.gang
