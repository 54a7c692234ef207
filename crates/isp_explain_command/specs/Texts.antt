-- What is done of texts that were read, in the words of isp_engine.
--     ChecksText    a source is checked, as `isp check` does
--     RunsTexts     an entry of a source is run from a text of arguments, as `isp run` does
use Rattle.std.specs.Prelude.{◌⊎◌, ℕ, List, Bool, Option, Some, Result, ⊤}
use Rattle.isp_base.specs.declared.types.Gang.{Gang}
use Rattle.isp_code.specs.Listing.{Listing}
use Rattle.isp_code_commands.specs.Texts.{GivesNone}
use Rattle.isp_typed.specs.Typed.{Program}
use Rattle.isp_verdicts.specs.Verdicts.{Checks}
use Rattle.isp_engine.specs.declared.failure.Failure.{Failure}
use Rattle.isp_engine.specs.Commands.{Ran}
use Rattle.isp_front.specs.Front.{IsSource}
use Rattle.isp_runs.specs.Compilation.{IsCompilation}
use Rattle.isp_engine.specs.Stories.{Stops, Writes}
use Rattle.isp_explain_command.specs.declared.done.Job.{Job}

-- what is said of the exported functions of a source
pub record JudgedText (gang : Gang) (text bytes : List ℕ) : Type 0 where
  pub program : Program
  pub is : IsSource gang text program
  pub checks : Checks program bytes

abbrev pub ChecksText : Gang → List ℕ → Option (List ℕ) → Option (List ℕ) → Bool → Result ⊤ Failure → Type 0
ChecksText gang text old new failed end = ((bytes : List ℕ) × JudgedText gang text bytes × Writes bytes old new failed end) ⊎ Stops (GivesNone (Some gang) text) old new failed end

-- the code of the source is run
pub record RanText (job : Job) (old new : Option (List ℕ)) (failed : Bool) (end : Result ⊤ Failure) : Type 0 where
  pub code : Listing
  pub compiles : IsCompilation job.gang job.source.text.now code
  pub ran : Ran code job.entry.now job.arguments.text.now job.budget old new failed end

abbrev pub RunsTexts : Job → Option (List ℕ) → Option (List ℕ) → Bool → Result ⊤ Failure → Type 0
RunsTexts job old new failed end = RanText job old new failed end ⊎ Stops (GivesNone (Some job.gang) job.source.text.now) old new failed end
