-- What a counted run answers.
use Rattle.std.specs.Prelude.{◌≡◌, ℕ, ◌<◌, List, None}
use Rattle.isp_base.specs.Arguments.{rows, rows_now}
use Rattle.isp_base.specs.Outcomes.{Outcome, Ends, Traps, GoesOn}
use Rattle.isp_base.specs.declared.signature.Argument.{Argument}
use Rattle.isp_code.specs.Conf.{Runs}
use Rattle.isp_code.specs.Entries.{IsEntry}
use Rattle.isp_code.specs.Listing.{Listing, Routine}
use Rattle.isp_code.specs.Machine.{after, first_conf, outcome_after}
use Rattle.isp_machine.specs.Kept.{Kept, state}
use Rattle.isp_machine.specs.Runs.{AtRefusal, Made, RunGives, conf}
use Rattle.isp_machine.specs.declared.stop.Stop.{Stop}
use Rattle.isp_machine.specs.declared.stop.Stop.TheVariants.{Running, Trapped, Ended, Memory}
use Rattle.isp_traces.specs.Tallies.{AreCounts}
use Rattle.isp_traces.specs.declared.runs.Counted.{Counted}
use Rattle.isp_traces.specs.declared.tallies.Counts.{Counts}

-- what `run` answers with a budget of b, and the counts of the steps that it made
abbrev pub CountGives : ℕ → Kept → Kept → Stop → Counts → Type 0
CountGives b old now Memory counts = (k : ℕ) × (k < b) × Made k old now × AtRefusal now.code (state now) × AreCounts old.code (state old) k counts
CountGives b old now stop counts = RunGives b old now stop × AreCounts old.code (state old) b counts

-- how a run stands, as it is told
abbrev pub Tells : Outcome → Counted → Type 0
Tells (Ends arrays x out) r = (r.stop ≡ Ended) × (r.arrays.items ≡ arrays) × (r.result ≡ x) × (r.output.items ≡ out)
Tells (Traps t arrays out) r = (r.stop ≡ Trapped t) × (r.arrays.items ≡ arrays) × (r.result ≡ None) × (r.output.items ≡ out)
Tells (GoesOn out) r = (r.stop ≡ Running) × (r.result ≡ None) × (r.output.items ≡ out)

-- an exported function has the name and takes the arguments
abbrev pub EntryFor : Listing → List ℕ → List Argument → Type 0
EntryFor code name xs = (f : ℕ) × (h : Routine) × IsEntry code name xs f h

-- a counted run of the function that is exported under a name, from these arguments
pub record CountedRun (code : Listing) (name : List ℕ) (xs : List Argument) (budget : ℕ) (r : Counted) : Type 0 where
  pub function : ℕ
  pub routine : Routine
  pub entry : IsEntry code name xs function routine
  pub tells : Tells (outcome_after code function routine xs budget) r
  -- also of a run that goes on
  pub arrays : r.arrays.items ≡ rows_now (rows xs) (conf (after code budget (Runs (first_conf code function routine xs)))).arrays
  pub counts : AreCounts code (Runs (first_conf code function routine xs)) budget r.counts
