use Rattle.std.proofs.Common.{◌≡◌, ap, sym, subst, ◌∙◌}
use Rattle.std.specs.Prelude.{None, Some, Result, Ok, Err, IfErr}
use Rattle.isp_lex.specs.declared.fault.Fault.{Fault}
use Rattle.isp_lex.specs.declared.fault.SourceFault.{SourceFault}
use Rattle.isp_lex.specs.declared.fault.SourceFault.TheVariants.{Memory, Refused}
use Rattle.isp_rates.specs.Breaches.{Least}
use Rattle.isp_rates.specs.Program.{ProgramBreach}
use Rattle.isp_typed.specs.declared.function.Program.{Program}
use Rattle.isp_typed.specs.Typed.{Program as TProgram}
use Rattle.isp_typed.specs.Views.{program_of}
use Rattle.isp_rates.specs.reader.Faults.{program_fault}
use Rattle.isp_rates.proofs.RateLaws.{answered}
use Rattle.isp_rates.proofs.checker.check.Goals as goal

refused_is : (d f : Fault) → Refused d ≡ Refused f → d ≡ f
refused_is d f e = cc

-- where a program has no breach, no refusal hides one
nothing_hidden : {A : Type 0} (r : Result A SourceFault) (p : TProgram) → ((f : Fault) → ProgramBreach p f → ⊥) → IfErr r (λ e. e ≡ Memory → (f : Fault) → ProgramBreach p f → ⊥)
nothing_hidden (Ok a) p h = tt
nothing_hidden (Err e) p h = λ m. h

pub new-requires-clause-sound : goal.new-requires-clause-sound
new-requires-clause-sound c =
    (answered None (program_of c.args.typed) (sym c.in-None.is ∙ (c.program-2.ensures ∙ ap (λ (p : Program). program_fault (program_of p)) c.program.ensures.same))).by

pub returns-in-Some-clause-refused : goal.returns-in-Some-clause-refused
returns-in-Some-clause-refused c f e =
    subst (λ (z : Fault). Least (Some z) (ProgramBreach (program_of c.args.typed))) (refused_is _ _ e)
    (answered (Some c.in-Some.fault) (program_of c.args.typed) (sym c.in-Some.is ∙ (c.program-2.ensures ∙ ap (λ (p : Program). program_fault (program_of p)) c.program.ensures.same)))

pub returns-in_err-calls-in-None-clause-memory : goal.returns-in_err-calls-in-None-clause-memory
returns-in_err-calls-in-None-clause-memory c =
    nothing_hidden _ (program_of c.args.typed)
    (answered None (program_of c.args.typed) (sym c.in-None.is ∙ (c.program-2.ensures ∙ ap (λ (p : Program). program_fault (program_of p)) c.program.ensures.same))).by

pub returns-in_err-dependences-in-None-clause-memory : goal.returns-in_err-dependences-in-None-clause-memory
returns-in_err-dependences-in-None-clause-memory c =
    nothing_hidden _ (program_of c.args.typed)
    (answered None (program_of c.args.typed) (sym c.in-None.is ∙ (c.program-2.ensures ∙ ap (λ (p : Program). program_fault (program_of p)) c.program.ensures.same))).by

pub returns-in_err-exports-in-None-clause-memory : goal.returns-in_err-exports-in-None-clause-memory
returns-in_err-exports-in-None-clause-memory c =
    nothing_hidden _ (program_of c.args.typed)
    (answered None (program_of c.args.typed) (sym c.in-None.is ∙ (c.program-2.ensures ∙ ap (λ (p : Program). program_fault (program_of p)) c.program.ensures.same))).by

pub returns-in_err-entries-in-None-clause-memory : goal.returns-in_err-entries-in-None-clause-memory
returns-in_err-entries-in-None-clause-memory c =
    nothing_hidden _ (program_of c.args.typed)
    (answered None (program_of c.args.typed) (sym c.in-None.is ∙ (c.program-2.ensures ∙ ap (λ (p : Program). program_fault (program_of p)) c.program.ensures.same))).by
