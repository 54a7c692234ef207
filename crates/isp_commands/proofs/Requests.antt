-- What refused code and the answer of a run mean for a request.
use Rattle.std.proofs.Common.{◌≡◌, ◌≢◌, ℕ, List, Bool, Option, Result, refl, sym, subst, inl}
use Rattle.std.specs.Prelude.{⊤}
use Rattle.isp_base.specs.declared.types.Gang.{Gang}
use Rattle.isp_code.specs.Listing.{Listing}
use Rattle.isp_lex.specs.declared.fault.Fault.{Fault}
use Rattle.isp_lex.specs.declared.fault.SourceFault.{SourceFault}
use Rattle.isp_lex.specs.declared.fault.SourceFault.TheVariants.{Memory as NoMemory, Refused}
use Rattle.isp_engine.specs.declared.job.Job.{Job}
use Rattle.isp_engine.specs.declared.job.Origin.{Origin}
use Rattle.isp_engine.specs.declared.job.Origin.TheVariants.{Compiled, Loaded}
use Rattle.isp_engine.specs.declared.failure.Failure.{Failure}
use Rattle.isp_engine.specs.declared.failure.Failure.TheVariants.{Source, Trapped, BudgetUsed, TurnsUsed, Run, Code, CannotRead, CannotWrite, Memory, NotIndependent, NotApart}
use Rattle.isp_runs.specs.declared.fault.CodeFault.{CodeFault}
use Rattle.isp_runs.specs.declared.fault.CodeFault.TheVariants as code_fault
use Rattle.isp_engine.specs.Commands.{Given, IsNoImage, NotGiven, Ran, RunEnds}
use Rattle.isp_engine.specs.Stories.{Holds, Reads}
use Rattle.isp_engine.specs.Failures.{code_failure, source_failure}
use Rattle.isp_front.specs.Front.{IsFaulty}
use Rattle.isp_runs.specs.Loading.{IsNotLoaded}

-- ---- a text that gives no code

pub not_compiled : (gang : Gang) (text : List ℕ) (e : SourceFault) → ((f : Fault) → e ≡ Refused f → IsFaulty gang text f) → source_failure e ≢ Memory → IsNoImage (Compiled gang) text (source_failure e)
not_compiled gang text NoMemory h n = absurd (n refl)
not_compiled gang text (Refused f) h n = h f refl

pub not_loaded : (text : List ℕ) (e : CodeFault) → (e ≢ code_fault.Memory → IsNotLoaded text e) → code_failure e ≢ Memory → IsNoImage Loaded text (code_failure e)
not_loaded text code_fault.Memory h n = absurd (n refl)
not_loaded text (code_fault.Text f) h n = h (λ e. let none : ⊥ = cc in none)
not_loaded text (code_fault.Code f) h n = h (λ e. let none : ⊥ = cc in none)

-- that a file is not read is no reason of a text
never_unread : (origin : Origin) (text : List ℕ) (name : _) → IsNoImage origin text (CannotRead name) → ⊥
never_unread (Compiled gang) text name h = h
never_unread Loaded text name h = h

module _ (holds : Holds) where
  pub no_code : (job : Job) (files : Reads holds job.text.now job.arguments.now) (f : Failure) → (f ≢ Memory → IsNoImage job.origin files.text f) → NotGiven holds job f
  no_code job files (CannotRead name) h = absurd (never_unread job.origin files.text name (h (λ e. let none : ⊥ = cc in none)))
  no_code job files Memory h = tt
  no_code job files (Source f) h = (files, h (λ e. let none : ⊥ = cc in none))
  no_code job files (Trapped t) h = (files, h (λ e. let none : ⊥ = cc in none))
  no_code job files BudgetUsed h = (files, h (λ e. let none : ⊥ = cc in none))
  no_code job files (Run f) h = (files, h (λ e. let none : ⊥ = cc in none))
  no_code job files CannotWrite h = (files, h (λ e. let none : ⊥ = cc in none))
  no_code job files (Code f) h = (files, h (λ e. let none : ⊥ = cc in none))
  no_code job files (TurnsUsed p) h = (files, h (λ e. let none : ⊥ = cc in none))
  no_code job files (NotIndependent d) h = (files, h (λ e. let none : ⊥ = cc in none))
  no_code job files (NotApart n i) h = (files, h (λ e. let none : ⊥ = cc in none))

  -- a run whose files gave what it ran
  pub run_ends : (job : Job) (code : Listing) (json read : List ℕ) (old new : Option (List ℕ)) (failed : Bool) (end : Result ⊤ Failure) → read ≡ json
      → Given holds job code json → Ran code job.entry.now read job.budget old new failed end → RunEnds holds job old new failed end
  run_ends job code json read old new failed end e g r = inl (record { code = code; json = read; given = subst (Given holds job code) (sym e) g; ran = r })
