-- What `ispx explain` does: what `isp check` does of the same source, or where there is an entry what `isp run` does.
use Rattle.std.specs.Prelude.{ℕ, List, Bool, Option, Some, None, Result, ⊤}
use Rattle.isp_code_commands.specs.Requests.{AnsweredBy}
use Rattle.isp_command_line.specs.declared.words.CheckRequest.{CheckRequest}
use Rattle.isp_command_line.specs.declared.words.RunRequest.{RunRequest}
use Rattle.isp_engine.specs.Checking.{WroteVerdicts}
use Rattle.isp_engine.specs.Commands.{RunEnds, job_of_run}
use Rattle.isp_engine.specs.Stories.{Holds}
use Rattle.isp_engine.specs.declared.failure.Failure.{Failure}
use Rattle.ispx_command_line.specs.declared.words.Call.{Call}
use Rattle.ispx_command_line.specs.declared.words.ExplainRequest.{ExplainRequest}

abbrev pub as_check : ExplainRequest → CheckRequest
as_check q = record { gang = q.gang; source = q.source }

abbrev pub as_run : ExplainRequest → Call → RunRequest
as_run q call = record { gang = q.gang; budget = q.budget; source = q.source; entry = call.entry; arguments = call.arguments }

abbrev pub ExplainedCall : Holds → ExplainRequest → Option Call → Option (List ℕ) → Option (List ℕ) → Bool → Result ⊤ Failure → Type 0
ExplainedCall holds q None old new failed end = WroteVerdicts holds (as_check q) old new failed end
ExplainedCall holds q (Some call) old new failed end = RunEnds holds (job_of_run (as_run q call)) old new failed end

abbrev pub Explained : Holds → ExplainRequest → Option (List ℕ) → Option (List ℕ) → Bool → ℕ → Type 0
Explained holds q old new failed status = AnsweredBy (ExplainedCall holds q q.call old new failed) status
