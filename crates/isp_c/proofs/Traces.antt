-- A call of isp_trace: the lines of the run of code, entry and bytes.
use Rattle.std.proofs.Common.{◌≡◌, ℕ, List, Result, Ok, Err, IfOk, refl, subst}
use Rattle.isp_base.specs.declared.signature.Argument.{Argument}
use Rattle.isp_code.specs.Listing.{Listing}
use Rattle.isp_runs.specs.Loading.{IsLoaded}
use Rattle.isp_traces.specs.Tracing.{TracedRun}
use Rattle.isp_traces.specs.declared.runs.Traced.{Traced}
use Rattle.isp_traces.specs.declared.tracing.Window.{Window}
use Rattle.isp_c_laws.specs.Running.{Binds}
use Rattle.isp_c.specs.Tracing.{TraceOf}
use Rattle.isp_reports.specs.declared.refusal.Refusal.{Refusal}

-- a run from the arguments that the bytes hold for an entry of code that was loaded
module _ (img : Listing) (name bytes : List ℕ) (xs : List Argument) (w : Window) (budget : ℕ) (b : Binds img name bytes xs) where
  traced : (text : List ℕ) → IsLoaded text img → (a : Result Traced Refusal) → IfOk a (TracedRun img name xs w budget) → IfOk a (λ r. TraceOf text name bytes w budget r.text.items)
  traced text l (Ok r) m = record {
    arguments = xs;
    takes = record { listing = img; loaded = l; function = b.0; routine = b.1; export = b.2.export; unpacked = b.3 };
    traced = r;
    run = m;
    lines_are = refl;
  }
  traced text l (Err f) m = tt

  pub trace_of : (code entry text : List ℕ) → text ≡ code → name ≡ entry → IsLoaded text img → (a : Result Traced Refusal) → IfOk a (TracedRun img name xs w budget)
      → IfOk a (λ r. TraceOf code entry bytes w budget r.text.items)
  trace_of code entry text e n l a m =
      subst (λ z. IfOk a (λ r. TraceOf z entry bytes w budget r.text.items)) e
      (subst (λ z. IfOk a (λ r. TraceOf text z bytes w budget r.text.items)) n (traced text l a m))
