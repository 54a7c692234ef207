-- What a file that is not read means for a request.
use Rattle.std.proofs.Common.{ℕ, List, Some, inl, inr}
use Rattle.isp_engine.specs.declared.job.Job.{Job}
use Rattle.isp_engine.specs.declared.failure.Failure.{Failure}
use Rattle.isp_engine.specs.declared.failure.Failure.TheVariants.{Source, Trapped, BudgetUsed, TurnsUsed, Run, Code, CannotRead, CannotWrite, Memory, NotIndependent, NotApart}
use Rattle.isp_engine.specs.Commands.{NotGiven}
use Rattle.isp_engine.specs.Stories.{Holds, Unread}

module _ (holds : Holds) where
  pub unread_first : (job : Job) (f : Failure) → Unread holds job.text.now f → NotGiven holds job f
  unread_first job (CannotRead name) h = inl h
  unread_first job Memory h = tt
  unread_first job (Source f) h = absurd h
  unread_first job (Trapped t) h = absurd h
  unread_first job BudgetUsed h = absurd h
  unread_first job (Run f) h = absurd h
  unread_first job CannotWrite h = absurd h
  unread_first job (Code f) h = absurd h
  unread_first job (TurnsUsed p) h = absurd h
  unread_first job (NotIndependent d) h = absurd h
  unread_first job (NotApart n e) h = absurd h

  pub unread_second : (job : Job) (text : List ℕ) → holds job.text.now (Some text) → (f : Failure) → Unread holds job.arguments.now f → NotGiven holds job f
  unread_second job text has (CannotRead name) h = inr ((text, has), h)
  unread_second job text has Memory h = tt
  unread_second job text has (Source f) h = absurd h
  unread_second job text has (Trapped t) h = absurd h
  unread_second job text has BudgetUsed h = absurd h
  unread_second job text has (Run f) h = absurd h
  unread_second job text has CannotWrite h = absurd h
  unread_second job text has (Code f) h = absurd h
  unread_second job text has (TurnsUsed p) h = absurd h
  unread_second job text has (NotIndependent d) h = absurd h
  unread_second job text has (NotApart n e) h = absurd h
