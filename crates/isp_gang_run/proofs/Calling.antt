-- A run is a call, and ends as the call does.
use Rattle.std.proofs.Common.{◌≡◌, refl, sym, ap, ap₂, ◌∙◌, ℕ, ◌-◌, List, Option, Some, None, Result, OnOk, IfErr}
use Rattle.std.specs.Prelude.{slice_get}
use Rattle.isp_base.specs.Sets.{everyone}
use Rattle.isp_base.specs.Types.{gang_width}
use Rattle.isp_base.specs.declared.signature.Argument.{Argument}
use Rattle.isp_typed.specs.Typed.{Program, TFunction}
use Rattle.isp_typed.specs.Views.{program_of}
use Rattle.isp_meaning.specs.Calls.{called, calls_at}
use Rattle.isp_meaning.specs.Expressions.{Passed}
use Rattle.isp_meaning.specs.Outcomes.{Val}
use Rattle.isp_meaning.specs.Payloads.{Payload}
use Rattle.isp_meaning.specs.Runs.{first_frame, first_state, handed, meaning}
use Rattle.isp_meaning.specs.State.{State, Frame}
use Rattle.isp_gang_run.specs.Ends.{Ends}
use Rattle.isp_gang_run.specs.Passing.{does_call}
use Rattle.isp_gang_run.specs.Seen.{frame_seen, state_seen}
use Rattle.isp_gang_run.specs.Settled.{Stands}
use Rattle.isp_gang_run.specs.Starts.{Starts}
use Rattle.isp_gang_run.specs.Tasks.{given, Halts, store_seen}
use Rattle.isp_gang_run.specs.declared.state.Evaluator.{Evaluator}
use Rattle.isp_gang_run.specs.declared.state.Stop.{Stop}
use Rattle.isp_gang_run.proofs.Settling.{stands}

-- ---- the call that a run is

-- a function that is known, with so many more calls
abbrev known : Program → ℕ → ℕ → Option TFunction → List Passed → Frame → State → Val Payload
known p n left f ps fr s = called p n (calls_at p n left) f (everyone (gang_width p.gang)) ps fr s

-- nothing is looked up in what the caller names
named_apart : (p : Program) (n k : ℕ) (xs : List Argument) (names : ℕ → ℕ)
    → known p n 255 (slice_get p.functions k) (handed 0 xs) (record (first_frame xs) { named = names }) (first_state xs) ≡ meaning p k n xs
named_apart p n k xs names = by (slice_get p.functions k)
  where
    by : (f : Option TFunction)
        → known p n 255 f (handed 0 xs) (record (first_frame xs) { named = names }) (first_state xs) ≡ known p n 255 f (handed 0 xs) (first_frame xs) (first_state xs)
    by None = refl
    by (Some f) = refl

module _ (e : Evaluator) (p : Program) (n : ℕ) (xs : List Argument) (g : TFunction) (k : ℕ) (ps : List Passed)
    (starts : Starts p n xs e) (found : slice_get p.functions k ≡ Some g) (passed : ps ≡ handed 0 xs) where
  comes_to : known (program_of e.program.now) e.turns (e.left - 1) (Some g) ps (frame_seen e.here) (state_seen e 0) ≡ meaning p k n xs
  comes_to =
      ap₂ (λ (q : Program) (m : ℕ). known q m (e.left - 1) (Some g) ps (frame_seen e.here) (state_seen e 0)) starts.program starts.turns
      ∙ ap₂ (λ (l : ℕ) (f : Option TFunction). known p n l f ps (frame_seen e.here) (state_seen e 0)) (ap (λ (l : ℕ). l - 1) starts.left) (sym found)
      ∙ ap₂ (λ (qs : List Passed) (s : State). known p n 255 (slice_get p.functions k) qs (frame_seen e.here) s) passed starts.state
      ∙ ap (λ (fr : Frame). known p n 255 (slice_get p.functions k) (handed 0 xs) fr (first_state xs)) starts.frame
      ∙ named_apart p n k xs (frame_seen e.here).named

  -- how its tasks ended is what it came to
  pub run_stands : (new : Evaluator) (r : Result (Unit {0}) Stop)
      → OnOk r (Ends e new (does_call e (e.left - 1) g (everyone (gang_width e.program.now.gang)) ps))
      → IfErr r (Halts e new (does_call e (e.left - 1) g (everyone (gang_width e.program.now.gang)) ps)) → Stands r new (meaning p k n xs)
  run_stands new r =
      let call = does_call e (e.left - 1) g (everyone (gang_width e.program.now.gang)) ps in
      stands e new call (meaning p k n xs) (ap (given (store_seen e 0)) comes_to) starts.counts r
