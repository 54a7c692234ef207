use Rattle.std.proofs.Common.{◌≡◌, refl, length-append}
use Rattle.std.specs.Prelude.{List, [], ◌∷◌}
use Rattle.std.proofs.lemmas.Slice.Zip.{zip_turn, zip_end}
use Rattle.isp_base.specs.declared.types.Rate.TheVariants.{Uniform}
use Rattle.isp_base.specs.declared.types.Span.{Span}
use Rattle.isp_lex.specs.declared.fault.Rule.TheVariants.{BadExport}
use Rattle.isp_lex.specs.Faults.{fault}
use Rattle.isp_typed.specs.declared.variable.Variable.{Variable}
use Rattle.isp_rates.specs.Rates.{goes_to, rate_held}
use Rattle.isp_breaches.specs.reader.Lists.{parameters_faults, unmet}
use Rattle.isp_breaches.proofs.Steps.{pairs_step, pairs_end}
use Rattle.isp_breaches.proofs.function.parameters.Goals as goal

pub loop-name-preserved : goal.loop-name-preserved
loop-name-preserved c =
    let t = zip_turn c.args.names.now c.args.variables.now c.loop-name.yielded c.into_iter-name-iterator.result c.loop-name.name-iterator c.next.new.self c.next.result
    (cc) (cc) c.loop-name.yielded_by (c.in-Some.name, c.in-Some.variable) c.in-Some.is c.next.ensures.steps in
    pairs_step parameters_faults (λ (s : Span) (v : Variable). unmet (goes_to Uniform (rate_held v.holds)) (fault BadExport s)) (λ x xs y ys. refl)
    c.args.names.now c.args.variables.now _ _ c.in-Some.name.now c.in-Some.variable.now c.loop-name.found.items _ _
    (length-append c.loop-name.yielded _) t.0 t.1 (t.2 _) (t.3 _) (rw (← c.rate_held.ensures) c.in_ok-exported.ensures) c.loop-name.invariant

none_right : (ss : List Span) → parameters_faults ss [] ≡ []
none_right [] = refl
none_right (s ∷ ss) = refl

pub returns : goal.returns
returns c =
    let t = zip_end c.args.names.now c.args.variables.now c.loop-name.yielded c.into_iter-name-iterator.result c.loop-name.name-iterator c.next.new.self c.next.result
    (cc) (cc) c.loop-name.yielded_by c.in-None.is c.next.ensures.steps in
    pairs_end parameters_faults (λ (s : Span) (v : Variable). unmet (goes_to Uniform (rate_held v.holds)) (fault BadExport s)) (λ x xs y ys. refl)
    c.args.names.now c.args.variables.now _ c.loop-name.found.items _ (λ ys. refl) none_right t c.loop-name.invariant
