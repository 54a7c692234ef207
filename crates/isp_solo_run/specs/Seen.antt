-- How a run in the code is a frame and a state of the definitions: what it does not hold is 0.
use Rattle.std.specs.Prelude.{ℕ, List, length, get_or, slice_get, Option, Some, None}
use Rattle.std.proofs.Common.{Bor, Vec, Global}
use Rattle.isp_base.specs.declared.types.Ty.{Ty}
use Rattle.isp_typed.specs.declared.function.TypedFunction.{TypedFunction}
use Rattle.isp_meaning.specs.Calls.{own_size}
use Rattle.isp_meaning.specs.Expressions.{Passed, Values, Store}
use Rattle.isp_meaning.specs.Payloads.{One}
use Rattle.isp_meaning.specs.State.{Frame}
use Rattle.isp_solo_meaning.specs.Alone.{Alone}
use Rattle.isp_solo_meaning.specs.Answers as Answers
use Rattle.isp_solo_meaning.specs.Places.{Spot, AVariable, AnElement}
use Rattle.isp_gang_values.specs.Growing.{at_each, values_of}
use Rattle.isp_solo_run.specs.Arrays.{wrote_seen, read_seen}
use Rattle.isp_solo_run.specs.declared.activation.Activation.{Activation}
use Rattle.isp_solo_run.specs.declared.arrays.Arrays.{Arrays}
use Rattle.isp_solo_run.specs.declared.places.Place.{Place}
use Rattle.isp_solo_run.specs.declared.places.Place.TheVariants as place
use Rattle.isp_solo_run.specs.declared.state.How.{How}
use Rattle.isp_solo_run.specs.declared.state.How.TheVariants as how
use Rattle.isp_solo_run.specs.declared.tasks.Passed as rust_passed_type
use Rattle.isp_solo_run.specs.declared.tasks.Passed.TheVariants as rust_passed

-- what a function says of a call; where the run begins there is none
abbrev pub sizes_in : Option (Bor TypedFunction) → ℕ → ℕ
sizes_in None v = 0
sizes_in (Some f) v = own_size (slice_get f.now.variables.items v)

abbrev pub answer_in : Option (Bor TypedFunction) → Option Ty
answer_in None = None
answer_in (Some f) = f.now.result

abbrev pub frame_seen : Activation → Frame
frame_seen a =
    record {
      named = λ v. get_or a.named.items v (length a.sizes.items);
      sizes = values_of a.sizes.items;
      opened = length a.sizes.items;
      own_sizes = sizes_in a.function;
      answer = answer_in a.function;
    }

-- arrays of its own, by variable and element
abbrev pub own_of : List (Vec ℕ Global) → ℕ → ℕ → ℕ
own_of = at_each (λ v. values_of v.items) (λ e. 0)

-- the state in which a call has its variables, with what belongs to all calls
abbrev pub state_of : Activation → Arrays → Alone
state_of a shared =
    record {
      uniforms = values_of a.uniforms.items;
      varying = values_of a.varying.items;
      own = own_of a.own.items;
      result = a.result;
      wrote = wrote_seen shared.stores.items;
      read = read_seen shared.stores.items;
    }

-- a state with its variables
abbrev pub with_variables : Activation → Alone → Alone
with_variables a s =
    record {
      uniforms = values_of a.uniforms.items;
      varying = values_of a.varying.items;
      own = own_of a.own.items;
      result = a.result;
      wrote = s.wrote;
      read = s.read;
    }

abbrev pub how_seen : How → Answers.How
how_seen how.Going = Answers.Going
how_seen how.Broke = Answers.Broke
how_seen how.Continued = Answers.Continued
how_seen how.Returned = Answers.Returned

-- a place that is written
abbrev pub spot_seen : Place → Spot
spot_seen (place.Variable v t) = AVariable v t
spot_seen (place.Element b t i) = AnElement b t i

-- what is handed to a call
abbrev pub passed_seen : rust_passed_type.Passed → Passed
passed_seen (rust_passed.Value x) = Values (One x)
passed_seen (rust_passed.Store b) = Store b
