-- What is done of texts is what a request asks for, where its files hold them.
use Rattle.std.proofs.Common.{◌≡◌, ℕ, List, Bool, false, Option, Some, Result, Ok, Err, refl, sym, subst, inl, inr}
use Rattle.std.specs.Prelude.{⊤}
use Rattle.isp_base.specs.declared.types.Gang.{Gang}
use Rattle.isp_engine.specs.declared.failure.Failure.{Failure}
use Rattle.isp_engine.specs.declared.failure.Failure.TheVariants.{Source, Trapped, BudgetUsed, TurnsUsed, Run, Code, CannotRead, CannotWrite, Memory, NotIndependent, NotApart}
use Rattle.isp_engine.specs.Checking.{WroteVerdicts}
use Rattle.isp_engine.specs.Commands.{Ran, RunEnds, job_of_run}
use Rattle.isp_runs.specs.Compilation.{IsCompilation}
use Rattle.isp_engine.specs.Stories.{Holds, Reads, SourceFails, Unread, UnreadOf}
use Rattle.isp_output.proofs.Written.{adds_nil}
use Rattle.isp_code_commands.proofs.Stories.{not_compiled, not_given}
use Rattle.isp_code_commands.specs.Texts.{GivesNone}
use Rattle.isp_command_line.specs.declared.words.RunRequest.{RunRequest}
use Rattle.ispx_command_line.specs.declared.words.ExplainRequest.{ExplainRequest}
use Rattle.isp_explain_command.specs.declared.done.Job.{Job as Done}
use Rattle.isp_explain_command.specs.Explaining.{as_check}
use Rattle.isp_explain_command.specs.Texts.{ChecksText, RunsTexts}

-- ---- a source that gives no code

module _ (holds : Holds) (gang : Gang) (source text : List ℕ) (has : holds source (Some text)) where
  source_fails : (f : Failure) → GivesNone (Some gang) text f → SourceFails holds gang source f
  source_fails (Source f) h = (text, has, h)
  source_fails Memory h = tt
  source_fails (Trapped t) h = absurd h
  source_fails BudgetUsed h = absurd h
  source_fails (Run f) h = absurd h
  source_fails (CannotRead name) h = absurd h
  source_fails CannotWrite h = absurd h
  source_fails (Code f) h = absurd h
  source_fails (TurnsUsed p) h = absurd h
  source_fails (NotIndependent d) h = absurd h
  source_fails (NotApart n e) h = absurd h

unread_source : (holds : Holds) (gang : Gang) (source : List ℕ) (f : Failure) → Unread holds source f → SourceFails holds gang source f
unread_source holds gang source (CannotRead name) h = h
unread_source holds gang source Memory h = tt
unread_source holds gang source (Source f) h = absurd h
unread_source holds gang source (Trapped t) h = absurd h
unread_source holds gang source BudgetUsed h = absurd h
unread_source holds gang source (Run f) h = absurd h
unread_source holds gang source CannotWrite h = absurd h
unread_source holds gang source (Code f) h = absurd h
unread_source holds gang source (TurnsUsed p) h = absurd h
unread_source holds gang source (NotIndependent d) h = absurd h
unread_source holds gang source (NotApart n e) h = absurd h

-- ---- a check

module _ (holds : Holds) (q : ExplainRequest) where
  pub checked_story : (text : List ℕ) (old new : Option (List ℕ)) (failed : Bool) (end : Result ⊤ Failure) → holds q.source.now (Some text)
      → ChecksText q.gang text old new failed end → WroteVerdicts holds (as_check q) old new failed end
  checked_story text old new failed end has (inl h) =
      inl (h.0, record { text = text; program = h.1.program; has_text = has; is = h.1.is; checks = h.1.checks }, h.2)
  checked_story text old new failed (Ok u) has (inr h) = absurd h
  checked_story text old new failed (Err f) has (inr h) = inr (source_fails holds q.gang q.source.now text has f h.0, h.1)

  pub unchecked_story : (old : Option (List ℕ)) (failed : Bool) (f : Failure) → failed ≡ false → Unread holds q.source.now f
      → WroteVerdicts holds (as_check q) old old failed (Err f)
  unchecked_story old failed f fresh h = inr (unread_source holds q.gang q.source.now f h, (sym (adds_nil old), fresh))

-- ---- a run

module _ (holds : Holds) (q : RunRequest) where
  pub unrun_story : (old : Option (List ℕ)) (failed : Bool) (f : Failure) → failed ≡ false → UnreadOf holds q.source.now q.arguments.now f
      → RunEnds holds (job_of_run q) old old failed (Err f)
  unrun_story old failed f fresh h = inr (not_given holds q f h, (sym (adds_nil old), fresh))

  module _ (done : Done) (gang : done.gang ≡ q.gang) (budget : done.budget ≡ q.budget) (entry : done.entry.now ≡ q.entry.now)
      (source : holds q.source.now (Some done.source.text.now)) (json : holds q.arguments.now (Some done.arguments.text.now)) where
    -- what the texts of its files are
    abbrev files_of : Reads holds q.source.now q.arguments.now
    files_of = record { text = done.source.text.now; json = done.arguments.text.now; has_text = source; has_json = json }

    pub run_story : (old new : Option (List ℕ)) (failed : Bool) (end : Result ⊤ Failure) → RunsTexts done old new failed end
        → RunEnds holds (job_of_run q) old new failed end
    run_story old new failed end (inl h) =
        let image = subst (λ g. IsCompilation g done.source.text.now h.code) gang h.compiles in
        let ran = subst (λ e. Ran h.code e done.arguments.text.now q.budget old new failed end) entry (subst (λ b. Ran h.code done.entry.now done.arguments.text.now b old new failed end) budget h.ran) in
        inl (record { code = h.code; json = done.arguments.text.now; given = record { files = files_of; json_is = refl; image = image }; ran = ran })
    run_story old new failed (Ok u) (inr h) = absurd h
    run_story old new failed (Err f) (inr h) = inr (not_compiled holds q files_of f (subst (λ g. GivesNone (Some g) done.source.text.now f) gang h.0), h.1)
