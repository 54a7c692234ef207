-- Calls: what they begin with, what they leave, and how deep they go.
use Rattle.std.specs.Prelude.{ℕ, zero, suc, ◌+◌, ◌-◌, List, [], ◌∷◌, length, take, Option, Some, None, Bool, true, false, if◌then◌else◌, nat_lt, slice_get, slice_index}
use Rattle.isp_base.specs.Cross.{or_zero}
use Rattle.isp_base.specs.Sets.{Mask, lowest}
use Rattle.isp_base.specs.Maps.{Lanes, on, over}
use Rattle.isp_base.specs.Traps.{trap}
use Rattle.isp_base.specs.Types.{gang_width}
use Rattle.isp_base.specs.declared.trap.TrapKind.TheVariants.{Depth}
use Rattle.isp_base.specs.declared.types.Rate.{Rate}
use Rattle.isp_base.specs.declared.types.Rate.TheVariants.{Uniform, Varying}
use Rattle.isp_base.specs.declared.types.Ty.{Ty}
use Rattle.isp_typed.specs.Typed.{TFunction, Program}
use Rattle.isp_typed.specs.declared.variable.Holds.{Holds}
use Rattle.isp_typed.specs.declared.variable.Holds.TheVariants.{Value as AValue, Given, Local}
use Rattle.isp_typed.specs.declared.variable.Variable.{Variable}
use Rattle.isp_meaning.specs.State.{State, Frame, below}
use Rattle.isp_meaning.specs.Payloads.{Payload, One, Each, sole, spread}
use Rattle.isp_meaning.specs.Outcomes.{Val, Gives, Fails, Stops, Res, Went, Trapped, Cut}
use Rattle.isp_meaning.specs.Expressions.{Passed, Values, Store, Calls}
use Rattle.isp_meaning.specs.Statements.{block}

-- ---- the frame of a call: shared local arrays are new stores, from the first that is not open

-- the sizes of the local arrays that all instances share, in order
abbrev pub size_at : Rate → ℕ → List ℕ → List ℕ
size_at Uniform n sizes = n ∷ sizes
size_at Varying n sizes = sizes

abbrev pub size_of : Holds → List ℕ → List ℕ
size_of (AValue t) sizes = sizes
size_of (Given t) sizes = sizes
size_of (Local t n) sizes = size_at t.rate n sizes

abbrev pub shared_sizes : List Variable → List ℕ
shared_sizes [] = []
shared_sizes (v ∷ vs) = size_of v.holds (shared_sizes vs)

-- the store that was passed, or else the new one
abbrev pub store_or : Option Passed → ℕ → ℕ
store_or (Some (Store b)) new = b
store_or x new = new

-- how many elements a local array has
abbrev pub local_size : Holds → ℕ
local_size (AValue t) = 0
local_size (Given t) = 0
local_size (Local t n) = n

abbrev pub own_size : Option Variable → ℕ
own_size None = 0
own_size (Some v) = local_size v.holds

abbrev pub frame_of : TFunction → List Passed → Frame → Frame
frame_of f xs caller =
    record {
      named = λ v. store_or (slice_get xs v) (caller.opened + length (shared_sizes (take v f.variables)));
      sizes = λ b. if nat_lt b caller.opened then caller.sizes b else slice_index (shared_sizes f.variables) (b - caller.opened);
      opened = caller.opened + length (shared_sizes f.variables);
      own_sizes = λ v. own_size (slice_get f.variables v);
      answer = f.answer;
    }

-- ---- the state of a call: what was passed, and zeros

-- whether two rates are one
abbrev pub same_rate : Rate → Rate → Bool
same_rate Uniform Uniform = true
same_rate Varying Varying = true
same_rate r q = false

-- whether a variable is a value of this rate, and no array
abbrev pub is_value : Rate → Holds → Bool
is_value r (AValue t) = same_rate r t.rate
is_value r h = false

-- a uniform parameter has the value that was passed, a varying one has it in those that call; all else begins with 0
abbrev pub one_passed : Option Variable → Option Passed → ℕ
one_passed (Some v) (Some (Values x)) = if is_value Uniform v.holds then sole x else 0
one_passed v x = 0

abbrev pub each_passed : Option Variable → Mask → Option Passed → Lanes
each_passed (Some v) a (Some (Values x)) = if is_value Varying v.holds then over (spread a x) (λ p. 0) else (λ p. 0)
each_passed v a x = λ p. 0

abbrev pub begun : TFunction → List Passed → Frame → Mask → State → State
begun f xs caller a s =
    record {
      uniforms = λ v. one_passed (slice_get f.variables v) (slice_get xs v);
      varying = λ v. each_passed (slice_get f.variables v) a (slice_get xs v);
      own = λ v e p. 0;
      result = 0;
      results = λ p. 0;
      arrays = below caller.opened s.arrays;
      out = s.out;
      work = s.work;
    }

-- ---- the end of a call

-- a uniform result is that of the last `return`, a varying one each member's; without a `return` it is 0
abbrev pub answer_at : Rate → Mask → State → Payload
answer_at Uniform a s = One s.result
answer_at Varying a s = Each (on a s.results)

abbrev pub answer_of : Option Ty → Mask → State → Payload
answer_of None a s = One 0
answer_of (Some t) a s = answer_at t.rate a s

-- The caller has its variables as they were; the local arrays of the call are no more.
abbrev pub resumed : Frame → State → State → State
resumed caller before s = record before { arrays = below caller.opened s.arrays; out = s.out; work = s.work }

abbrev pub ended : Option Ty → Frame → Mask → State → Res → Val Payload
ended t caller a before (Went s g b c r) = Gives (answer_of t a s) (resumed caller before s)
ended t caller a before (Trapped trap s) = Fails trap s
ended t caller a before (Cut s) = Stops s

-- ---- how deep calls go

-- how many calls may run, one in the other
abbrev pub most_calls : ℕ
most_calls = 256

module _ (program : Program) (most : ℕ) where
  -- a function runs, whose calls are these; no program names a function that is not there
  abbrev pub called : Calls → Option TFunction → Mask → List Passed → Frame → State → Val Payload
  called calls None a xs caller s = Stops s
  called calls (Some f) a xs caller s =
      ended f.answer caller a s (block (gang_width program.gang) (frame_of f xs caller) calls most f.body a (begun f xs caller a s))

  -- with so many levels left; with none left a call traps at its place
  abbrev pub calls_at : ℕ → Calls
  calls_at zero f place a xs caller s = Fails (trap Depth place (or_zero (lowest (gang_width program.gang) a))) s
  calls_at (suc left) f place a xs caller s = called (calls_at left) (slice_get program.functions f) a xs caller s
