-- What a traced run answers.
use Rattle.std.specs.Prelude.{◌≡◌, ℕ, ◌+◌, ◌-◌, ◌≤◌, min, List}
use Rattle.isp_base.specs.declared.signature.Argument.{Argument}
use Rattle.isp_code.specs.Conf.{State, Runs}
use Rattle.isp_code.specs.Entries.{IsEntry}
use Rattle.isp_code.specs.Listing.{Listing, Routine}
use Rattle.isp_code.specs.Machine.{after, first_conf}
use Rattle.isp_machine.specs.Kept.{Kept, state}
use Rattle.isp_machine.specs.Runs.{IsEnded, IsRunning, IsTrapped, Made}
use Rattle.isp_machine.specs.declared.stop.Stop.{Stop}
use Rattle.isp_machine.specs.declared.stop.Stop.TheVariants.{Running, Trapped, Ended, Memory}
use Rattle.isp_traces.specs.Steps.{lines}
use Rattle.isp_traces.specs.declared.runs.Traced.{Traced}
use Rattle.isp_traces.specs.declared.tracing.Window.{Window}

-- the number of the first step that has a line, and that after the last one
abbrev pub first : Window → ℕ → ℕ
first w budget = min w.from budget

abbrev pub behind : Window → ℕ → ℕ
behind w budget = min (w.from + w.count) budget

-- why a machine stands as it does
abbrev pub StopsAs : Stop → State → Type 0
StopsAs Running s = IsRunning s
StopsAs (Trapped t) s = IsTrapped t s
StopsAs Ended s = IsEnded s
StopsAs Memory s = ⊥

-- where memory was refused, some of so many instructions are made
abbrev pub MadeUpTo : ℕ → Kept → Kept → Type 0
MadeUpTo b old now = (k : ℕ) × (k ≤ b) × Made k old now

-- the machine after these steps, and their lines
pub record TraceGives (w : Window) (budget : ℕ) (old now : Kept) (stop : Stop) (text : List ℕ) : Type 0 where
  pub steps : Made (behind w budget) old now
  pub stops : StopsAs stop (state now)
  pub lines_are : text ≡ lines old.code w.lanes (state old) (first w budget) (behind w budget - first w budget)

-- a traced run of the function that is exported under a name, from these arguments
pub record TracedRun (code : Listing) (name : List ℕ) (xs : List Argument) (w : Window) (budget : ℕ) (r : Traced) : Type 0 where
  pub function : ℕ
  pub routine : Routine
  pub entry : IsEntry code name xs function routine
  pub stops : StopsAs r.stop (after code (behind w budget) (Runs (first_conf code function routine xs)))
  pub lines_are : r.text.items ≡ lines code w.lanes (Runs (first_conf code function routine xs)) (first w budget) (behind w budget - first w budget)
