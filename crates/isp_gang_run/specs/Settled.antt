-- How a run stands once nothing is left to be done.
use Rattle.std.specs.Prelude.{◌≡◌, ℕ, List, Result, Ok, Err, Some, slice_get}
use Rattle.isp_base.specs.declared.signature.Argument.{Argument}
use Rattle.isp_typed.specs.Typed.{Program, TFunction}
use Rattle.isp_meaning.specs.Payloads.{Payload}
use Rattle.isp_meaning.specs.Outcomes.{Val, Gives, Fails, Stops}
use Rattle.isp_meaning.specs.Runs.{meaning}
use Rattle.isp_gang_values.specs.Seen.{payload_of}
use Rattle.isp_gang_run.specs.Seen.{state_seen}
use Rattle.isp_gang_run.specs.Tasks.{Counts}
use Rattle.isp_gang_run.specs.declared.state.Evaluator.{Evaluator}
use Rattle.isp_gang_run.specs.declared.state.Stop.{Stop}
use Rattle.isp_gang_run.specs.declared.state.Stop.TheVariants.{Memory, Trapped, Cut}

-- what a call gave, and how its tasks ended, after the work that is counted
abbrev pub Stands : Result (Unit {0}) Stop → Evaluator → Val Payload → Type 0
Stands (Ok x) e v = (w : ℕ) × Counts e w × (v ≡ Gives (payload_of e.value) (state_seen e w))
Stands (Err Memory) e v = Unit {0}
Stands (Err (Trapped t)) e v = (w : ℕ) × Counts e w × (v ≡ Fails t (state_seen e w))
Stands (Err Cut) e v = (w : ℕ) × Counts e w × (v ≡ Stops (state_seen e w))

-- likewise the run of a function from arguments, whichever number of its program it has
pub record Stood (p : Program) (g : TFunction) (n : ℕ) (xs : List Argument) (r : Result (Unit {0}) Stop) (e : Evaluator) : Type 0 where
  pub by : (f : ℕ) → slice_get p.functions f ≡ Some g → Stands r e (meaning p f n xs)
