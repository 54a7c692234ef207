-- How a run ends, and what it came to.
use Rattle.std.specs.Prelude.{◌≡◌, ℕ, List, Option, Some, None}
use Rattle.isp_solo_meaning.specs.Alone.{Alone}
use Rattle.isp_solo_meaning.specs.Answers.{Answer, Has, Bad, Long, reached}
use Rattle.isp_meaning.specs.Expressions.{Passed}
use Rattle.isp_meaning.specs.Runs.{no_place}
use Rattle.isp_solo_run.specs.Arrays.{wrote_seen, read_seen}
use Rattle.isp_solo_run.specs.Seen.{frame_seen}
use Rattle.isp_solo_run.specs.Tasks.{calls_in, state_seen}
use Rattle.isp_solo_run.specs.declared.running.Ending.{Ending}
use Rattle.isp_solo_run.specs.declared.running.Ending.TheVariants.{Gave, Trapped, Cut}
use Rattle.isp_solo_run.specs.declared.running.Run.{Run}
use Rattle.isp_solo_run.specs.declared.state.Single.{Single}
use Rattle.isp_solo_run.specs.declared.state.Stop.{Stop}
use Rattle.isp_solo_run.specs.declared.state.Stop.TheVariants as stop

-- it ended so, in this state
abbrev pub ended_in : Ending → Alone → Answer ℕ
ended_in (Gave x) s = Has x s
ended_in (Trapped t) s = Bad t s
ended_in Cut s = Long s

-- how a run ends that stops before its tasks are done; where memory was refused it came to nothing
abbrev pub ending_of : Stop → Option Ending
ending_of stop.Memory = None
ending_of (stop.Trapped t) = Some (Trapped t)
ending_of stop.Cut = Some Cut

-- the run came to this: its value, trap or cut, what it stored in the arrays, and where it read them
pub record IsRunOf (v : Answer ℕ) (r : Run) : Type 0 where
  pub ending : v ≡ ended_in r.ending (reached v)
  pub wrote : wrote_seen r.arrays.stores.items ≡ (reached v).wrote
  pub read : read_seen r.arrays.stores.items ≡ (reached v).read

-- what the call of a function answers that a run begins with
abbrev pub entry_answer : Single → ℕ → List Passed → Answer ℕ
entry_answer e f ps = calls_in e.setting e.left f no_place ps (frame_seen e.here) (state_seen e)
