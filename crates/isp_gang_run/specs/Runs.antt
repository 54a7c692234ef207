-- What a run came to, as a value of the meaning.
use Rattle.std.specs.Prelude.{◌≡◌, ℕ, List, Some, slice_get}
use Rattle.isp_base.specs.declared.signature.Argument.{Argument}
use Rattle.isp_typed.specs.Typed.{Program, TFunction}
use Rattle.isp_meaning.specs.Outcomes.{Val, Gives, Fails, Stops}
use Rattle.isp_meaning.specs.Payloads.{Payload}
use Rattle.isp_meaning.specs.Runs.{meaning, state_of}
use Rattle.isp_meaning.specs.State.{State}
use Rattle.isp_gang_values.specs.Seen.{payload_of}
use Rattle.isp_gang_run.specs.Capped.{capped}
use Rattle.isp_gang_arrays.specs.Stores.{stores_of}
use Rattle.isp_gang_run.specs.declared.running.Ending.{Ending}
use Rattle.isp_gang_run.specs.declared.running.Ending.TheVariants.{Gave, Trapped, Cut}
use Rattle.isp_gang_run.specs.declared.running.Run.{Run}

-- it ended so, in this state
abbrev pub ended_in : Ending → State → Val Payload
ended_in (Gave x) s = Gives (payload_of x) s
ended_in (Trapped t) s = Fails t s
ended_in Cut s = Stops s

-- the run came to this value, with the arrays, the output and the work of its state
pub record IsRunOf (r : Run) (v : Val Payload) : Type 0 where
  pub ending : v ≡ ended_in r.ending (state_of v)
  pub arrays : stores_of r.stores.items ≡ (state_of v).arrays
  pub output : r.output.items ≡ (state_of v).out
  pub work : r.work ≡ capped (state_of v).work

-- the run of a function from arguments, whichever number of its program it has
pub record HasRun (p : Program) (g : TFunction) (n : ℕ) (xs : List Argument) (r : Run) : Type 0 where
  pub by : (f : ℕ) → slice_get p.functions f ≡ Some g → IsRunOf r (meaning p f n xs)
