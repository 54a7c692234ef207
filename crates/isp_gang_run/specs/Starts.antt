-- How a run begins.
use Rattle.std.specs.Prelude.{◌≡◌, ℕ, List, []}
use Rattle.isp_base.specs.declared.signature.Argument.{Argument}
use Rattle.isp_typed.specs.Typed.{Program}
use Rattle.isp_typed.specs.Views.{program_of}
use Rattle.isp_meaning.specs.State.{State}
use Rattle.isp_meaning.specs.Calls.{most_calls}
use Rattle.isp_meaning.specs.Runs.{first_frame, first_state}
use Rattle.isp_gang_run.specs.Seen.{frame_seen, state_seen}
use Rattle.isp_gang_run.specs.Tasks.{Counts}
use Rattle.isp_gang_run.specs.declared.state.Evaluator.{Evaluator}

-- nothing but such stores
abbrev pub nothing_written : (ℕ → ℕ → ℕ) → State
nothing_written arrays =
    record {
      uniforms = λ v. 0;
      varying = λ v p. 0;
      own = λ v e p. 0;
      result = 0;
      results = λ p. 0;
      arrays = arrays;
      out = [];
      work = 0;
    }

-- Nothing is to be done, the stores are the arrays among the arguments, and nothing else was written or counted. A call looks at no
-- store that its caller names.
pub record Starts (p : Program) (n : ℕ) (xs : List Argument) (e : Evaluator) : Type 0 where
  pub program : program_of e.program.now ≡ p
  pub turns : e.turns ≡ n
  pub left : e.left ≡ most_calls
  pub frame : frame_seen e.here ≡ record (first_frame xs) { named = (frame_seen e.here).named }
  pub state : state_seen e 0 ≡ first_state xs
  pub nothing : e.tasks.items ≡ []
  pub counts : Counts e 0
