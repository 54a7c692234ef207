-- What `ispx count` and `ispx trace` write, and how they end.
--     CountShows, TraceShows    what the run of an entry of code shows, and how the program ends after it
--     NotRun                    why an entry does not run
--     ShowEnds                  what it shows goes out, as far as the sink takes it; or it does not run
use Rattle.std.specs.Prelude.{◌≡◌, ◌⊎◌, ℕ, ◌+◌, ◌<◌, ◌≤◌, List, [], ◌∷◌, ◌++◌, Bool, true, false, Option, Result, Ok, Err, ⊤}
use Rattle.isp_base.specs.Types.{gang_width}
use Rattle.isp_base.specs.declared.array.Array.{Array}
use Rattle.isp_base.specs.declared.signature.Argument.{Argument}
use Rattle.isp_base.specs.declared.signature.Parameter.{Parameter}
use Rattle.isp_base.specs.declared.types.Value.{Value}
use Rattle.isp_bind.specs.Answering.{answer_text}
use Rattle.isp_bind.specs.Binding.{bound_of}
use Rattle.isp_code.specs.Entries.{IsEntry, IsExport, parameters_of}
use Rattle.isp_code.specs.Listing.{Listing, Routine}
use Rattle.isp_output.specs.Sinks.{TookAll, TookSome}
use Rattle.isp_engine.specs.Stories.{Stops}
use Rattle.isp_engine.specs.declared.failure.Failure.{Failure}
use Rattle.isp_engine.specs.declared.failure.Failure.TheVariants as failure
use Rattle.isp_runs.specs.declared.fault.RunFault.TheVariants.{NoEntry, Arguments}
use Rattle.isp_machine.specs.declared.stop.Stop.{Stop}
use Rattle.isp_machine.specs.declared.stop.Stop.TheVariants.{Running, Trapped, Ended, Memory}
use Rattle.isp_traces.specs.Counting.{CountedRun}
use Rattle.isp_traces.specs.Tallies.{IsGrouped}
use Rattle.isp_traces.specs.Texts.{counts_text, lines_text}
use Rattle.isp_traces.specs.Tracing.{TracedRun}
use Rattle.isp_traces.specs.declared.runs.Counted.{Counted}
use Rattle.isp_traces.specs.declared.runs.Traced.{Traced}
use Rattle.isp_traces.specs.declared.tallies.Grouping.{Grouping}
use Rattle.isp_traces.specs.declared.tracing.Window.{Window}
use Rattle.ispx_command_line.specs.declared.words.CountRequest.{CountRequest}
use Rattle.ispx_command_line.specs.declared.words.TraceRequest.{TraceRequest}
use Rattle.isp_code_commands.specs.Lines.{AreByLines}

-- the arguments that a text gives to the function that is exported under a name
pub record Binds (code : Listing) (name json : List ℕ) (xs : List Argument) : Type 0 where
  pub function : ℕ
  pub routine : Routine
  pub entry : IsEntry code name xs function routine
  pub bound : bound_of (parameters_of routine) json ≡ Ok xs

-- the same, and these are the parameters of the function
abbrev pub BindsFor : Listing → List ℕ → List ℕ → List Argument → List Parameter → Type 0
BindsFor code name json xs params = (b : Binds code name json xs) × (params ≡ parameters_of b.routine)

-- how the program ends after a run that stopped so
abbrev pub end_of_stop : Stop → Result ⊤ Failure
end_of_stop Ended = Ok tt
end_of_stop (Trapped t) = Err (failure.Trapped t)
end_of_stop Running = Err failure.BudgetUsed
end_of_stop Memory = Err failure.Memory

-- ---- count

-- the answer and a line feed, where the run ended
abbrev pub answer_line : Stop → List Parameter → List Array → Option Value → List ℕ
answer_line Ended params arrays x = answer_text params arrays x ++ 10 ∷ []
answer_line stop params arrays x = []

-- what those of each line come to, where they are wanted
abbrev pub lines_wanted : Bool → Listing → Counted → List ℕ
lines_wanted false code r = []
lines_wanted true code r = lines_text (gang_width code.gang) r.counts.groups.tallies.items

-- the output, the answer, what the instructions come to, and what those of each line do
abbrev pub count_page : CountRequest → Listing → Routine → Counted → List ℕ
count_page q code h r =
    r.output.items ++ answer_line r.stop (parameters_of h) r.arrays.items r.result ++ counts_text code r.counts ++ lines_wanted q.lines code r

-- a group has the places of a line of the source
pub record CountShows (q : CountRequest) (source : List ℕ) (code : Listing) (json page : List ℕ) (end : Result ⊤ Failure) : Type 0 where
  pub arguments : List Argument
  pub binds : Binds code q.run.entry.now json arguments
  pub counted : Counted
  pub runs : CountedRun code q.run.entry.now arguments q.run.budget counted
  pub grouping : Grouping
  pub lines : q.lines ≡ true → AreByLines source code.places grouping
  pub grouped : IsGrouped grouping counted.counts.groups
  pub page_is : page ≡ count_page q code binds.routine counted
  pub ends : end ≡ end_of_stop counted.stop

-- ---- trace

abbrev pub window_of : TraceRequest → Window
window_of q = record { from = q.from; count = q.count; lanes = q.lanes }

-- a run that goes on after its trace has used up its budget, unless the window ended before
abbrev pub EndsTrace : Window → ℕ → Stop → Result ⊤ Failure → Type 0
EndsTrace w budget Running end = ((w.from + w.count < budget) × (end ≡ Ok tt)) ⊎ ((budget ≤ w.from + w.count) × (end ≡ Err failure.BudgetUsed))
EndsTrace w budget stop end = end ≡ end_of_stop stop

-- the lines of the steps in the window
pub record TraceShows (q : TraceRequest) (code : Listing) (json page : List ℕ) (end : Result ⊤ Failure) : Type 0 where
  pub arguments : List Argument
  pub binds : Binds code q.run.entry.now json arguments
  pub traced : Traced
  pub runs : TracedRun code q.run.entry.now arguments (window_of q) q.run.budget traced
  pub page_is : page ≡ traced.text.items
  pub ends : EndsTrace (window_of q) q.run.budget traced.stop end

-- ---- either

-- nothing is exported under the name, or the arguments are refused
abbrev pub NotRun : Listing → List ℕ → List ℕ → Failure → Type 0
NotRun code name json failure.Memory = Unit {0}
NotRun code name json (failure.Run NoEntry) = (f : ℕ) (h : Routine) → IsExport code name f h → ⊥
NotRun code name json (failure.Run (Arguments b)) = (f : ℕ) × (h : Routine) × IsExport code name f h × (bound_of (parameters_of h) json ≡ Err b)
NotRun code name json f = ⊥

-- a page goes out whole, and after it the program ends so; or a write fails
abbrev pub WritesPage : List ℕ → Result ⊤ Failure → Option (List ℕ) → Option (List ℕ) → Bool → Result ⊤ Failure → Type 0
WritesPage page last old new failed end = ((end ≡ last) × TookAll page old new failed) ⊎ ((end ≡ Err failure.CannotWrite) × TookSome page old new failed)

-- code and the text of arguments, what is shown of the run, and how the program ends after it
abbrev pub Shows : Type 1
Shows = Listing → List ℕ → List ℕ → Result ⊤ Failure → Type 0

abbrev pub ShowEnds : Shows → List ℕ → Listing → List ℕ → Option (List ℕ) → Option (List ℕ) → Bool → Result ⊤ Failure → Type 0
ShowEnds shows name code json old new failed end =
    ((page : List ℕ) × (last : Result ⊤ Failure) × shows code json page last × WritesPage page last old new failed end) ⊎ Stops (NotRun code name json) old new failed end
