-- The gang's meaning of a function from arguments: it ends or traps as some run does, and goes on where every run is cut.
-- More turns change no ending and no trap, and only add to the output (MoreTurns), so there is one outcome at most.
use Rattle.std.specs.Prelude.{◌≡◌, ℕ, List}
use Rattle.isp_base.specs.Outcomes.{Outcome, GoesOn, IsOver}
use Rattle.isp_base.specs.declared.signature.Argument.{Argument}
use Rattle.isp_meaning.specs.Runs.{run_of}
use Rattle.isp_typed.specs.Typed.{Program}

-- it ends or traps so
abbrev pub Comes : Program → ℕ → List Argument → Outcome → Type 0
Comes program f xs o = IsOver o × ((n : ℕ) × (run_of program f n xs ≡ o))

-- it goes on
abbrev pub NeverOver : Program → ℕ → List Argument → Type 0
NeverOver program f xs = (n : ℕ) → (out : List ℕ) × (run_of program f n xs ≡ GoesOn out)
