-- Which run a machine made.
use Rattle.std.proofs.Common.{◌≡◌, ℕ, List, Some, Ok, Err, refl, sym, ap, ◌∙◌, subst}
use Rattle.std.specs.Prelude.{slice_get}
use Rattle.isp_base.specs.Arguments.{rows}
use Rattle.isp_base.specs.declared.signature.Argument.{Argument}
use Rattle.isp_base.specs.declared.signature.Parameter.{Parameter}
use Rattle.isp_code.specs.Conf.{Runs as Going}
use Rattle.isp_code.specs.Entries.{IsExport, parameters_of}
use Rattle.isp_code.specs.Listing.{Listing, Routine}
use Rattle.isp_code.specs.Machine.{after, outcome, outcome_after}
use Rattle.isp_machine.specs.Kept.{Kept, given, state}
use Rattle.isp_machine.specs.Runs.{Made, RunGives}
use Rattle.isp_machine.specs.Starts.{Starts}
use Rattle.isp_machine.specs.declared.stop.Stop.{Stop}
use Rattle.isp_machine.specs.declared.stop.Stop.TheVariants.{Running, Trapped, Ended, Memory}
use Rattle.isp_store.specs.Held.{shapes_of}
use Rattle.isp_verify.specs.Progress.{NeverStuck}
use Rattle.isp_runs.specs.declared.report.Report.{Report}
use Rattle.isp_bind.specs.Binding.{bound_of}
use Rattle.isp_bind.specs.declared.fault.BindFault.{BindFault}
use Rattle.isp_bind.specs.declared.fault.BindFault.TheVariants as bind
use Rattle.isp_runs.specs.RunFaults.{run_fault}
use Rattle.isp_runs.specs.Reports.{Reports, ReportsRun, Executes}
use Rattle.isp_runs.specs.declared.fault.RunFault.TheVariants as fault
use Rattle.isp_output.specs.Stops.{StopsAs}

-- a run that memory did not stop is one of so many instructions, and stands as it stopped
pub made : (b : ℕ) (old now : Kept) (stop : Stop) → RunGives b old now stop → (s : StopsAs stop (state now)) → Made b old now
made b old now Running g s = g.0
made b old now (Trapped t) g s = g.0
made b old now Ended g s = g.0
made b old now Memory g s = absurd s

pub stops : (b : ℕ) (old now : Kept) (stop : Stop) → RunGives b old now stop → (stop ≡ Memory → ⊥) → StopsAs stop (state now)
stops b old now Running g ne = g.1
stops b old now (Trapped t) g ne = g.1
stops b old now Ended g ne = g.1
stops b old now Memory g ne = absurd (ne refl)

-- the machine that began with an entry's first state is, after so many instructions, where the entry is
module _ (code : Listing) (entry : List ℕ) (xs : List Argument) (b : ℕ) (old now : Kept) (begins : Starts code entry xs old) (ran : Made b old now) where
  pub given_is : shapes_of (rows xs) ≡ given now
  given_is = sym (ran.given_same ∙ begins.given_are)

  one_routine : (f f1 : ℕ) (g g1 : Routine) → f ≡ f1 → slice_get code.routines f ≡ Some g → slice_get code.routines f1 ≡ Some g1 → g ≡ g1
  one_routine f f1 g g1 same e e1 = some_same g g1 (sym e ∙ ap (slice_get code.routines) same ∙ e1)
    where
      some_same : (g g1 : Routine) → Some g ≡ Some g1 → g ≡ g1
      some_same g g1 e = cc

  pub outcome_is : NeverStuck code → (f : ℕ) (g : Routine) → IsExport code entry f g → outcome (rows xs) (state now) ≡ outcome_after code f g xs b
  outcome_is fine f g x =
      let same : begins.function ≡ f = fine.once entry begins.function f begins.routine g begins.entry.export x in
      let routine : begins.routine ≡ g = one_routine begins.function f begins.routine g same begins.entry.export.found x.found in
      ap (outcome (rows xs)) (ran.state_is ∙ ap (λ c. after c b (state old)) begins.code_is ∙ ap (after code b) begins.state_is)
      ∙ ap (λ k. outcome_after code k begins.routine xs b) same
      ∙ ap (λ h. outcome_after code f h xs b) routine

-- ---- what is answered for the function that is exported under a name

module _ (code : Listing) (fine : NeverStuck code) (entry json : List ℕ) (b : ℕ) (f : ℕ) (h : Routine) (x : IsExport code entry f h) (ps : List Parameter) (is : ps ≡ parameters_of h) where
  -- it is the only one
  only : (f1 : ℕ) (g : Routine) → IsExport code entry f1 g → (f ≡ f1) × (h ≡ g)
  only f1 g y =
      let same : f ≡ f1 = fine.once entry f f1 h g x y in
      (same, some_same h g (sym x.found ∙ ap (slice_get code.routines) same ∙ y.found))
    where
      some_same : (h g : Routine) → Some h ≡ Some g → h ≡ g
      some_same h g e = cc

  -- the machine's report
  pub reported : (xs : List Argument) → bound_of ps json ≡ Ok xs → (r : Report) → ReportsRun code entry ps xs b r → Executes code entry json b (Ok r)
  reported xs bound r reports = record {
    none = λ no. absurd (no f h x);
    runs = λ f1 g y.
        let params : ps ≡ parameters_of g = is ∙ ap parameters_of (only f1 g y).1 in
        (xs, subst (λ qs. bound_of qs json ≡ Ok xs) params bound, subst (λ qs. Reports qs (outcome_after code f1 g xs b) r) params (reports f1 g y));
  }

  -- want of memory
  pub wanting : Executes code entry json b (Err fault.Memory)
  wanting = record { none = λ no. absurd (no f h x); runs = λ f1 g y ne. absurd (ne refl) }

  -- refused arguments
  not_memory : (z : BindFault) → (run_fault z ≡ fault.Memory → ⊥) → z ≡ bind.Memory → ⊥
  not_memory z ne e = ne (ap run_fault e)

  pub refused : (z : BindFault) → ((z ≡ bind.Memory → ⊥) → bound_of ps json ≡ Err z) → Executes code entry json b (Err (run_fault z))
  refused z why = record {
    none = λ no. absurd (no f h x);
    runs = λ f1 g y ne.
        let params : ps ≡ parameters_of g = is ∙ ap parameters_of (only f1 g y).1 in
        (z, subst (λ qs. bound_of qs json ≡ Err z) params (why (not_memory z ne)), refl);
  }
