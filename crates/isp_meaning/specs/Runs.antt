-- The run of an entry: a call over all instances of the gang, from the bound arguments.
use Rattle.std.specs.Prelude.{ℕ, suc, ◌%◌, ◌^◌, List, [], ◌∷◌, length, Option, Some, None, slice_get, slice_index}
use Rattle.isp_base.specs.Arguments.{rows, row_bits, rows_now}
use Rattle.isp_base.specs.Outcomes.{Outcome, Ends, Traps, GoesOn}
use Rattle.isp_base.specs.Sets.{everyone}
use Rattle.isp_base.specs.Types.{gang_width}
use Rattle.isp_base.specs.Values.{width}
use Rattle.isp_base.specs.declared.signature.Argument.{Argument}
use Rattle.isp_base.specs.declared.signature.Argument.TheVariants.{Value as AValue, Array as AnArray}
use Rattle.isp_base.specs.declared.types.Elem.{Elem}
use Rattle.isp_base.specs.declared.types.Span.{Span}
use Rattle.isp_base.specs.declared.types.Value.{Value}
use Rattle.isp_typed.specs.Typed.{Program, TFunction}
use Rattle.isp_meaning.specs.State.{State, Frame}
use Rattle.isp_meaning.specs.Payloads.{Payload, One, sole}
use Rattle.isp_meaning.specs.Outcomes.{Val, Gives, Fails, Stops}
use Rattle.isp_meaning.specs.Expressions.{Passed, Values, Store}
use Rattle.isp_meaning.specs.Calls.{calls_at, most_calls}

-- what the arguments hand over: the arrays are the first stores, in order
abbrev pub handed : ℕ → List Argument → List Passed
handed b [] = []
handed b (AValue v ∷ xs) = Values (One (v.bits % 2 ^ width v.elem)) ∷ handed b xs
handed b (AnArray r ∷ xs) = Store b ∷ handed (suc b) xs

-- before a run: the arrays among the arguments, and nothing else
abbrev pub first_frame : List Argument → Frame
first_frame xs =
    record { named = λ v. 0; sizes = λ b. length (row_bits (rows xs) b); opened = length (rows xs); own_sizes = λ v. 0; answer = None }

abbrev pub first_state : List Argument → State
first_state xs =
    record {
      uniforms = λ v. 0;
      varying = λ v p. 0;
      own = λ v e p. 0;
      result = 0;
      results = λ p. 0;
      arrays = λ b e. slice_index (row_bits (rows xs) b) e;
      out = [];
      work = 0;
    }

-- nothing calls the entry
abbrev pub no_place : Span
no_place = record { start = 0; end = 0 }

-- what function f gives, where each loop makes at most so many turns each time it is entered
abbrev pub meaning : Program → ℕ → ℕ → List Argument → Val Payload
meaning program f most xs = calls_at program most most_calls f no_place (everyone (gang_width program.gang)) (handed 0 xs) (first_frame xs) (first_state xs)

-- the value that a function gives
abbrev pub gives_of : Option TFunction → Option Elem
gives_of None = None
gives_of (Some f) = f.gives

abbrev pub answer_as : Option Elem → Payload → Option Value
answer_as None x = None
answer_as (Some t) x = Some (record { elem = t; bits = sole x })

abbrev pub outcome_of : Option Elem → List Argument → Val Payload → Outcome
outcome_of t xs (Gives x s) = Ends (rows_now (rows xs) s.arrays) (answer_as t x) s.out
outcome_of t xs (Fails trap s) = Traps trap (rows_now (rows xs) s.arrays) s.out
outcome_of t xs (Stops s) = GoesOn s.out

-- the run of n turns
abbrev pub run_of : Program → ℕ → ℕ → List Argument → Outcome
run_of program f most xs = outcome_of (gives_of (slice_get program.functions f)) xs (meaning program f most xs)

abbrev pub state_of : {A : Type 0} → Val A → State
state_of (Gives x s) = s
state_of (Fails trap s) = s
state_of (Stops s) = s

-- the work of a run up to its end, trap or cut
abbrev pub work_of : Program → ℕ → ℕ → List Argument → ℕ
work_of program f most xs = (state_of (meaning program f most xs)).work
