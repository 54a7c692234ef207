-- Which of the samples are scoped: computed from the definition.
use Rattle.std.specs.Prelude.{[], ◌≤◌}
use Rattle.std.proofs.Common.{refl}
use Rattle.std.proofs.lemmas.List.Elements.{All-head, All-cons, All-nil}
use native.Mathlib.Omega.{arith}
use Rattle.isp_lex.specs.Lexing.{IsWord}
use Rattle.isp_typed.specs.Scoped.{ScopedFunction, IsScoped}
use Rattle.isp_typed.specs.Samples.{scoped, out_of_scope, ScopesOfSamples}

-- the read of u, after the block in which it is declared
fails : IsScoped out_of_scope → ⊥
fails h = grind (arith, (All-head ScopedFunction _ [] h.each).body.1.0.1)

some : 1 ≤ 1
some = omega arith

few : 1 ≤ 3
few = omega arith

holds : IsScoped scoped
holds = record {
  each = All-cons ScopedFunction _ [] (record {
    body = (
      (refl, (tt, tt), ((refl, tt), tt), (((refl, tt), tt), (((refl, tt), refl), tt))),
      (
        (refl, ((refl, tt), tt), refl, (refl, tt), refl, (((refl, refl), tt), (((refl, tt), refl), tt))),
        ((refl, some, few, (refl, tt, tt, tt), ((refl, tt), refl)), tt),
      ),
    );
    all = refl;
    name = (refl, refl);
    words = All-cons (λ p. IsWord p.name) _ [] (refl, refl) (All-nil (λ p. IsWord p.name));
  }) (All-nil ScopedFunction);
}

pub scopes_of_samples : ScopesOfSamples
scopes_of_samples = record { holds = holds; fails = fails }
