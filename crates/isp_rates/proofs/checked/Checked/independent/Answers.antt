use Rattle.std.proofs.Common.{List, Some, None, ap, subst, ◌∙◌}
use Rattle.std.specs.Prelude.{Option, slice_get}
use Rattle.isp_typed.specs.declared.function.Program.{Program}
use Rattle.isp_typed.specs.Views.{program_of}
use Rattle.isp_independence.specs.declared.dependence.Dependence.{Dependence}
use Rattle.isp_independence.specs.Independent.{AreDependences}
use Rattle.isp_rates.proofs.Independent.{kept_breach}
use Rattle.isp_rates.proofs.checked.Checked.independent.Goals as goal

pub returns-in-Some-clause-err : goal.returns-in-Some-clause-err
returns-in-Some-clause-err c = λ f e.
    let kept = subst (λ (p : Program). AreDependences (program_of p) c.self.inside.dependences.items) c.self.view_is c.self.invariant.1 in
    (kept_breach c.args.self.now c.self.inside.dependences.items c.args.entry.now f (Some c.in-Some.dependence) kept e
    (λ o k. c.in-Some.ensures f o (c.entry.ensures ∙ e) (ap (λ (z : List (Option Dependence)). slice_get z f) c.deref.ensures.value ∙ k))).by

pub returns-in-None-clause-ok : goal.returns-in-None-clause-ok
returns-in-None-clause-ok c = λ f e.
    let kept = subst (λ (p : Program). AreDependences (program_of p) c.self.inside.dependences.items) c.self.view_is c.self.invariant.1 in
    (kept_breach c.args.self.now c.self.inside.dependences.items c.args.entry.now f None kept e
    (λ o k. c.in-None.ensures f o (c.entry.ensures ∙ e) (ap (λ (z : List (Option Dependence)). slice_get z f) c.deref.ensures.value ∙ k))).by
