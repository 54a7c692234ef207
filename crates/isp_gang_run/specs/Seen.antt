-- How an evaluator is a frame and a state of the meaning: what it does not hold is 0.
use Rattle.std.specs.Prelude.{ℕ, List, length, get_or, slice_get, Option, Some, None}
use Rattle.std.proofs.Common.{Bor}
use Rattle.isp_base.specs.Maps.{lane_of}
use Rattle.isp_base.specs.declared.types.Ty.{Ty}
use Rattle.isp_typed.specs.declared.function.TypedFunction.{TypedFunction}
use Rattle.isp_meaning.specs.Calls.{own_size}
use Rattle.isp_meaning.specs.Expressions.{Passed, Values, Store}
use Rattle.isp_meaning.specs.Places.{Place, Variable, Element}
use Rattle.isp_meaning.specs.State.{State, Frame}
use Rattle.isp_gang_values.specs.Growing.{values_of, lanes_of}
use Rattle.isp_gang_values.specs.Seen.{payload_of}
use Rattle.isp_gang_arrays.specs.Stores.{stores_of, own_of}
use Rattle.isp_gang_run.specs.declared.activation.Activation.{Activation}
use Rattle.isp_gang_run.specs.declared.places.Place as rust_place_type
use Rattle.isp_gang_run.specs.declared.places.Place.TheVariants as rust_place
use Rattle.isp_gang_run.specs.declared.state.Evaluator.{Evaluator}
use Rattle.isp_gang_run.specs.declared.tasks.Passed as rust_passed_type
use Rattle.isp_gang_run.specs.declared.tasks.Passed.TheVariants as rust_passed

-- what a function says of a call; where the run begins there is none
abbrev pub sizes_in : Option (Bor TypedFunction) → ℕ → ℕ
sizes_in None v = 0
sizes_in (Some f) v = own_size (slice_get f.now.variables.items v)

abbrev pub answer_in : Option (Bor TypedFunction) → Option Ty
answer_in None = None
answer_in (Some f) = f.now.result

abbrev pub frame_seen : Activation → Frame
frame_seen a =
    record {
      named = λ v. get_or a.named.items v (length a.sizes.items);
      sizes = values_of a.sizes.items;
      opened = length a.sizes.items;
      own_sizes = sizes_in a.function;
      answer = answer_in a.function;
    }

-- the state in which a call has its variables, with what belongs to all calls
abbrev pub variables_seen : Activation → (ℕ → ℕ → ℕ) → List ℕ → ℕ → State
variables_seen a stores out work =
    record {
      uniforms = values_of a.uniforms.items;
      varying = lanes_of a.varying.items;
      own = own_of a.own.items;
      result = a.result;
      results = lane_of a.results;
      arrays = stores;
      out = out;
      work = work;
    }

-- the state, where so many nodes were reached
abbrev pub state_seen : Evaluator → ℕ → State
state_seen e w = variables_seen e.here (stores_of e.stores.items) e.output.items w

-- a place that is written
abbrev pub place_seen : rust_place_type.Place → Place
place_seen (rust_place.Variable v t) = Variable v t
place_seen (rust_place.Element b t i) = Element b t (payload_of i)

-- what is handed to a call
abbrev pub passed_seen : rust_passed_type.Passed → Passed
passed_seen (rust_passed.Value m) = Values (payload_of m)
passed_seen (rust_passed.Store b) = Store b
