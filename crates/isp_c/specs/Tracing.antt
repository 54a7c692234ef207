-- What isp_trace does.
use Rattle.std.specs.Prelude.{◌≡◌, ℕ, List, Result, Ok, Err, nat_eq, not}
use Rattle.isp_base.specs.declared.signature.Argument.{Argument}
use Rattle.isp_traces.specs.Tracing.{TracedRun}
use Rattle.isp_traces.specs.declared.runs.Traced.{Traced}
use Rattle.isp_traces.specs.declared.tracing.Window.{Window}
use Rattle.isp_reports.specs.Rooms.{Answers}
use Rattle.isp_c_laws.specs.Running.{NoRun, Takes}
use Rattle.isp_reports.specs.declared.refusal.Refusal.{Refusal}
use Rattle.isp_reports.specs.declared.report.Report.{Report}
use Rattle.isp_c.specs.declared.trace.Trace.{Trace}

-- the steps that a caller asks for
abbrev pub window_of : Trace → Window
window_of t = record { from = t.from; count = t.count; lanes = not (nat_eq t.lanes 0) }

-- the lines of these steps of the run from the arguments that the bytes hold
pub record TraceOf (code entry packed : List ℕ) (w : Window) (budget : ℕ) (lines : List ℕ) : Type 0 where
  pub arguments : List Argument
  pub takes : Takes code entry packed (Ok arguments)
  pub traced : Traced
  pub run : TracedRun takes.listing entry arguments w budget traced
  pub lines_are : lines ≡ traced.text.items

abbrev pub IsTrace : List ℕ → Trace → List ℕ → Result (List ℕ) Refusal → Type 0
IsTrace code t packed (Ok lines) = TraceOf code t.job.entry.bytes.now packed (window_of t) t.job.budget lines
IsTrace code t packed (Err f) = NoRun code t.job.entry.bytes.now packed f

abbrev pub Traces : List ℕ → Trace → List ℕ → List ℕ → List ℕ → Report → ℕ → Type 0
Traces code t packed old new r status = (answer : Result (List ℕ) Refusal) × IsTrace code t packed answer × Answers old new r status answer
