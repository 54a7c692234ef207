-- An evaluation is a run of the function that was found.
use Rattle.std.proofs.Common.{◌≡◌, sym, ap, subst, ◌∙◌, ℕ, List, Option}
use Rattle.isp_base.specs.Arguments.{rows}
use Rattle.isp_base.specs.declared.signature.Argument.{Argument}
use Rattle.isp_typed.specs.Typed.{TFunction}
use Rattle.isp_typed.specs.Views.{function_of, program_of}
use Rattle.isp_typed.specs.declared.function.Program.{Program}
use Rattle.isp_typed.specs.declared.function.TypedFunction.{TypedFunction}
use Rattle.isp_rates.specs.Accepted.{IsAccepted}
use Rattle.isp_meaning.specs.Outcomes.{Val}
use Rattle.isp_meaning.specs.Payloads.{Payload}
use Rattle.isp_meaning.specs.Runs.{gives_of, meaning, outcome_of, state_of}
use Rattle.isp_entry.specs.Entered.{BeginsWith}
use Rattle.isp_type_laws.specs.Fits.{GivenFits, RowsFit}
use Rattle.isp_gang_run.specs.Runs.{HasRun, IsRunOf}
use Rattle.isp_gang_run.specs.Starting.{ArgumentsFit}
use Rattle.isp_gang_run.specs.declared.running.Run.{Run}
use Rattle.isp_model.specs.Evaluated.{IsRun, IsWork, ResultFits, outcome_seen}
use Rattle.isp_model.specs.declared.outcome.Outcome.{Outcome}
use Rattle.isp_type_laws.proofs.Runs.{elements_fit, result_fits}

module _ (p q : Program) (same : p ≡ q) (name : List ℕ) (n : ℕ) (g : TypedFunction) where
  run_is : (xs : List Argument) (o : Outcome) (b : BeginsWith (program_of p) name xs (function_of g))
      → outcome_seen o ≡ outcome_of (function_of g).gives xs (meaning (program_of p) b.0 n xs) → IsRun (program_of q) name xs n o
  run_is xs o b is =
      subst (λ (z : Program). IsRun (program_of z) name xs n o) same
      (b.0, (function_of g, b.1), is ∙ ap (λ (f : Option TFunction). outcome_of (gives_of f) xs (meaning (program_of p) b.0 n xs)) (sym b.1.export.found))

  module _ (xs ys : List Argument) (r : Run) (given : ys ≡ xs) (begins : BeginsWith (program_of p) name xs (function_of g)) (ran : HasRun (program_of p) (function_of g) n ys r) where
    begun : BeginsWith (program_of p) name ys (function_of g)
    begun = subst (λ (zs : List Argument). BeginsWith (program_of p) name zs (function_of g)) (sym given) begins

    came : IsRunOf r (meaning (program_of p) begun.0 n ys)
    came = ran.by begun.0 begun.1.export.found

    pub evaluated : (o : Outcome) → IsAccepted (program_of q) → ArgumentsFit ys
        → ((v : Val Payload) → IsRunOf r v → RowsFit (rows ys) (state_of v).arrays → outcome_seen o ≡ outcome_of (function_of g).gives ys v)
        → IsRun (program_of q) name xs n o
    evaluated o accepted fits outcome =
        let v = meaning (program_of p) begun.0 n ys in
        let fit = elements_fit (program_of p) begun.0 (function_of g) ys n (subst (λ (z : Program). IsAccepted (program_of z)) (sym same) accepted) begun.1.export.found begun.1.fits fits in
        subst (λ (zs : List Argument). IsRun (program_of q) name zs n o) given (run_is ys o begun (outcome v came fit))

    pub given_fits : (o : Outcome) → IsAccepted (program_of q) → ArgumentsFit ys
        → ((v : Val Payload) → IsRunOf r v → GivenFits (function_of g).gives v → ResultFits o) → ResultFits o
    given_fits o accepted fits outcome =
        outcome (meaning (program_of p) begun.0 n ys) came
        (result_fits (program_of p) begun.0 (function_of g) ys n (subst (λ (z : Program). IsAccepted (program_of z)) (sym same) accepted) begun.1.export.found begun.1.fits fits)

    pub worked : IsWork (program_of q) name xs n r.work
    worked =
        subst (λ (zs : List Argument). IsWork (program_of q) name zs n r.work) given
        (subst (λ (z : Program). IsWork (program_of z) name ys n r.work) same (begun.0, (function_of g, begun.1), came.work))
