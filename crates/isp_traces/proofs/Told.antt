-- How a counted run stands, from how the machine stands when its steps are made.
use Rattle.std.proofs.Common.{◌≡◌, refl, sym, ap, ◌∙◌, subst, ℕ, List}
use Rattle.isp_base.specs.Arguments.{rows, rows_now}
use Rattle.isp_base.specs.Rows.{Row}
use Rattle.isp_base.specs.declared.signature.Argument.{Argument}
use Rattle.isp_code.specs.Conf.{State, Runs, Trapped, Ended}
use Rattle.isp_code.specs.Listing.{Listing}
use Rattle.isp_code.specs.Machine.{after, first_conf, outcome}
use Rattle.isp_machine.specs.Kept.{Kept, state}
use Rattle.isp_machine.specs.Runs.{IsEnded, IsRunning, IsTrapped, Made, conf, result_of}
use Rattle.isp_machine.specs.Starts.{Starts}
use Rattle.isp_machine.specs.declared.stop.Stop.{Stop}
use Rattle.isp_machine.specs.declared.stop.Stop.TheVariants as stop
use Rattle.isp_traces.specs.Counting.{CountGives, CountedRun, Tells}
use Rattle.isp_traces.specs.Tallies.{AreCounts}
use Rattle.isp_traces.specs.declared.runs.Counted.{Counted}
use Rattle.isp_traces.specs.declared.tallies.Counts.{Counts}

-- where a run stands that stops so
abbrev IsAt : Stop → State → Type 0
IsAt stop.Running s = IsRunning s
IsAt (stop.Trapped t) s = IsTrapped t s
IsAt stop.Ended s = IsEnded s
IsAt stop.Memory s = ⊥

-- what is told of it, but for its counts
abbrev Told : List Row → Stop → State → Counted → Type 0
Told rs k s r = (r.stop ≡ k) × (r.result ≡ result_of s) × (r.arrays.items ≡ rows_now rs (conf s).arrays) × (r.output.items ≡ (conf s).out)

told : (rs : List Row) (k : Stop) (s : State) (r : Counted) → IsAt k s → Told rs k s r → Tells (outcome rs s) r
told rs stop.Running (Runs c) r is t = (t.0, t.1, t.3)
told rs stop.Running (Trapped u c) r is t = absurd is
told rs stop.Running (Ended x c) r is t = absurd is
told rs (stop.Trapped v) (Runs c) r is t = absurd is
told rs (stop.Trapped v) (Trapped u c) r is t = (t.0 ∙ ap stop.Trapped (sym is), t.2, t.1, t.3)
told rs (stop.Trapped v) (Ended x c) r is t = absurd is
told rs stop.Ended (Runs c) r is t = absurd is
told rs stop.Ended (Trapped u c) r is t = absurd is
told rs stop.Ended (Ended x c) r is t = (t.0, t.2, t.1, t.3)
told rs stop.Memory s r is t = absurd is

-- without a refusal it has made all steps, and they are counted
pub made : (budget : ℕ) (old now : Kept) (k : Stop) (counts : Counts) → (k ≡ stop.Memory → ⊥) → CountGives budget old now k counts → Made budget old now × IsAt k (state now) × AreCounts old.code (state old) budget counts
made budget old now stop.Running counts ne g = (g.0.0, g.0.1, g.1)
made budget old now (stop.Trapped v) counts ne g = (g.0.0, g.0.1, g.1)
made budget old now stop.Ended counts ne g = (g.0.0, g.0.1, g.1)
made budget old now stop.Memory counts ne g = absurd (ne refl)

pub counted_run : (code : Listing) (name : List ℕ) (xs : List Argument) (budget : ℕ) (old now : Kept) (k : Stop) (counts : Counts) (r : Counted)
    → Starts code name xs old → (k ≡ stop.Memory → ⊥) → CountGives budget old now k counts → r.stop ≡ k → r.result ≡ result_of (state now)
    → r.arrays.items ≡ rows_now (rows xs) (conf (state now)).arrays → r.output.items ≡ (conf (state now)).out → r.counts ≡ counts → CountedRun code name xs budget r
counted_run code name xs budget old now k counts r starts ne gives stops result arrays output same =
    let first = first_conf code starts.function starts.routine xs in
    let m = made budget old now k counts ne gives in
    let at : state now ≡ after code budget (Runs first) = m.0.state_is ∙ ap (λ (l : Listing). after l budget (state old)) starts.code_is ∙ ap (after code budget) starts.state_is in
    record {
      function = starts.function;
      routine = starts.routine;
      entry = starts.entry;
      tells = subst (λ (s : State). Tells (outcome (rows xs) s) r) at (told (rows xs) k (state now) r m.1 (stops, result, arrays, output));
      arrays = subst (λ (s : State). r.arrays.items ≡ rows_now (rows xs) (conf s).arrays) at arrays;
      counts = subst (λ (z : Counts). AreCounts code (Runs first) budget z) (sym same) (subst (λ (s : State). AreCounts code s budget counts) starts.state_is (subst (λ (l : Listing). AreCounts l (state old) budget counts) starts.code_is m.2));
    }
