-- A run that began, and what of its page goes out.
use Rattle.std.proofs.Common.{◌≡◌, ℕ, List, Bool, Option, Err, sym, subst}
use Rattle.isp_base.specs.declared.signature.Argument.{Argument}
use Rattle.isp_base.specs.declared.types.Gang.{Gang}
use Rattle.isp_code.specs.Listing.{Listing}
use Rattle.isp_runs.specs.BoundReports.{MeansBound, RunsBound}
use Rattle.isp_runs.specs.Compilation.{IsCompilation}
use Rattle.isp_output.specs.Sinks.{TookSome}
use Rattle.isp_engine.specs.Stories.{Writes}
use Rattle.isp_engine.specs.declared.failure.Failure.{Failure}
use Rattle.isp_engine.specs.declared.failure.Failure.TheVariants as failure
use Rattle.isp_runs.specs.declared.report.BoundReport.{BoundReport}
use Rattle.isp_entry.specs.Entered.{BeginsWith, NoneBegins}
use Rattle.isp_run_command.specs.Running.{IsReady, WordsRan, budget_of}
use Rattle.isp_run_data.specs.Loading.{Datas}
use Rattle.isp_run_words.specs.declared.request.RunWords.{RunWords}
use Rattle.isp_typed.specs.Typed.{Program, TFunction}
use Rattle.isp_typed.specs.Views.{program_of}
use Rattle.isp_typed.specs.declared.function.Program as typed

-- ---- a run that began

abbrev Means : Listing → List ℕ → List Argument → ℕ → BoundReport → Type 0
Means code entry xs budget r = (gang : Gang) (text : List ℕ) (compiled : IsCompilation gang text code) → MeansBound compiled.program entry xs budget r

module _ (datas : Datas) (q : RunWords) (text : List ℕ) (code : Listing) (xs : List Argument) (program : Program) where
  meant : (r : BoundReport) → IsReady datas q text code xs program → Means code q.entry.now xs (budget_of q.budget) r → MeansBound program q.entry.now xs (budget_of q.budget) r
  meant r ready means = subst (λ p. MeansBound p q.entry.now xs (budget_of q.budget) r) (sym ready.same) (means q.gang text ready.compiles)

  pub never : (r : BoundReport) → IsReady datas q text code xs program → NoneBegins program q.entry.now xs → Means code q.entry.now xs (budget_of q.budget) r → ⊥
  never r ready none means = let m = meant r ready means in none m.function (m.typed, m.is_entry)

  pub ran_words : (h : TFunction) (r : BoundReport) → IsReady datas q text code xs program → BeginsWith program q.entry.now xs h
      → RunsBound code q.entry.now xs (budget_of q.budget) r → Means code q.entry.now xs (budget_of q.budget) r → WordsRan datas q text h r
  ran_words h r ready begins machine means =
      record { code = code; arguments = xs; program = program; ready = ready; begins = begins; machine = machine; means = meant r ready means }

-- a program that is handed on is the same
pub begun : (p q : typed.Program) (name : List ℕ) (xs : List Argument) (h : TFunction) → p ≡ q → BeginsWith (program_of p) name xs h → BeginsWith (program_of q) name xs h
begun p q name xs h e b = subst (λ r. BeginsWith (program_of r) name xs h) e b

pub unbegun : (p q : typed.Program) (name : List ℕ) (xs : List Argument) → p ≡ q → NoneBegins (program_of p) name xs → NoneBegins (program_of q) name xs
unbegun p q name xs e b = subst (λ r. NoneBegins (program_of r) name xs) e b

-- ---- what goes out

pub lost : (page : List ℕ) (old new : Option (List ℕ)) (failed : Bool) (f : Failure) → Writes page old new failed (Err f) → TookSome page old new failed
lost page old new failed failure.CannotWrite h = h
lost page old new failed (failure.Source f) h = absurd h
lost page old new failed (failure.Trapped t) h = absurd h
lost page old new failed failure.BudgetUsed h = absurd h
lost page old new failed (failure.TurnsUsed p) h = absurd h
lost page old new failed (failure.Run f) h = absurd h
lost page old new failed (failure.CannotRead name) h = absurd h
lost page old new failed failure.Memory h = absurd h
lost page old new failed (failure.Code f) h = absurd h
lost page old new failed (failure.NotIndependent d) h = absurd h
lost page old new failed (failure.NotApart n e) h = absurd h
