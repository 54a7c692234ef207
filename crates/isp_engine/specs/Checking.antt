-- What `check` does: each exported function of a source is tried for independence, and what is found goes out.
use Rattle.std.specs.Prelude.{◌⊎◌, ℕ, List, Bool, Option, Some, Result, ⊤}
use Rattle.isp_typed.specs.Typed.{Program}
use Rattle.isp_verdicts.specs.Verdicts.{Checks}
use Rattle.isp_command_line.specs.declared.words.CheckRequest.{CheckRequest}
use Rattle.isp_engine.specs.declared.failure.Failure.{Failure}
use Rattle.isp_front.specs.Front.{IsSource}
use Rattle.isp_engine.specs.Stories.{Holds, SourceFails, Stops, Writes}

-- what is said of the exported functions of the source
pub record Judged (holds : Holds) (q : CheckRequest) (bytes : List ℕ) : Type 0 where
  pub text : List ℕ
  pub program : Program
  pub has_text : holds q.source.now (Some text)
  pub is : IsSource q.gang text program
  pub checks : Checks program bytes

abbrev pub WroteVerdicts : Holds → CheckRequest → Option (List ℕ) → Option (List ℕ) → Bool → Result ⊤ Failure → Type 0
WroteVerdicts holds q old new failed end = ((bytes : List ℕ) × Judged holds q bytes × Writes bytes old new failed end) ⊎ Stops (SourceFails holds q.gang q.source.now) old new failed end
