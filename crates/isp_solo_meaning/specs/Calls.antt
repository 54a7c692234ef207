-- Calls by one instance: what they begin with, what they leave, and how deep they go.
use Rattle.std.specs.Prelude.{ℕ, zero, suc, List, Option, Some, None, if◌then◌else◌, slice_get}
use Rattle.isp_base.specs.Traps.{trap}
use Rattle.isp_base.specs.Types.{gang_width}
use Rattle.isp_base.specs.declared.trap.TrapKind.TheVariants.{Depth}
use Rattle.isp_base.specs.declared.types.Rate.{Rate}
use Rattle.isp_base.specs.declared.types.Rate.TheVariants.{Uniform, Varying}
use Rattle.isp_typed.specs.Typed.{TFunction, Program}
use Rattle.isp_typed.specs.declared.variable.Variable.{Variable}
use Rattle.isp_meaning.specs.Payloads.{sole}
use Rattle.isp_meaning.specs.Expressions.{Passed, Values}
use Rattle.isp_meaning.specs.State.{Frame}
use Rattle.isp_meaning.specs.Calls.{frame_of, is_value}
use Rattle.isp_solo_meaning.specs.Alone.{Alone}
use Rattle.isp_solo_meaning.specs.Answers.{Answer, Has, Bad, Long, End, Does, Dies, Lasts}
use Rattle.isp_solo_meaning.specs.Values.{OwnCalls}
use Rattle.isp_solo_meaning.specs.Does.{does_block}

-- ---- the state of a call: what was passed, and zeros

-- the value of a parameter among the variables of one rate, 0 where it is of the other
abbrev pub value_passed : Rate → Option Variable → Option Passed → ℕ
value_passed r (Some v) (Some (Values x)) = if is_value r v.holds then sole x else 0
value_passed r v x = 0

abbrev pub begun : TFunction → List Passed → Alone → Alone
begun f xs s =
    record {
      uniforms = λ v. value_passed Uniform (slice_get f.variables v) (slice_get xs v);
      varying = λ v. value_passed Varying (slice_get f.variables v) (slice_get xs v);
      own = λ v e. 0;
      result = 0;
      wrote = s.wrote;
      read = s.read;
    }

-- ---- the end of a call: the caller has its variables as they were, and the result, 0 without a `return`

abbrev pub resumed : Alone → Alone → Alone
resumed before s = record before { wrote = s.wrote; read = s.read }

abbrev pub ended : Alone → End → Answer ℕ
ended before (Does s how) = Has s.result (resumed before s)
ended before (Dies t s) = Bad t s
ended before (Lasts s) = Long s

-- ---- how deep calls go

module _ (program : Program) (most : ℕ) (m : ℕ → ℕ → ℕ) (p : ℕ) where
  -- no program names a function that is not there
  abbrev pub called : OwnCalls → Option TFunction → List Passed → Frame → Alone → Answer ℕ
  called calls None xs caller s = Long s
  called calls (Some f) xs caller s =
      ended s (does_block (gang_width program.gang) m p (frame_of f xs caller) calls most f.body (begun f xs s))

  -- with so many levels left; with none left a call traps at its place
  abbrev pub own_calls : ℕ → OwnCalls
  own_calls zero f place xs caller s = Bad (trap Depth place p) s
  own_calls (suc left) f place xs caller s = called (own_calls left) (slice_get program.functions f) xs caller s
