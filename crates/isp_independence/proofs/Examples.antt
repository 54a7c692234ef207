-- Which restrictions the samples break: computed from the rules.
use Rattle.std.specs.Prelude.{◌<◌}
use Rattle.std.proofs.Common.{refl, inl, inr}
use native.Mathlib.Omega.{arith}
use Rattle.isp_base.specs.declared.types.Gang.TheVariants.{W4}
use Rattle.isp_independence.specs.Reaches.{itself}
use Rattle.isp_independence.proofs.Single.{independent_alone}
use Rattle.isp_independence.specs.Samples.{Lookers, Assignments, Turns, Wholes, Firsts, RulesOfSamples}

one : 0 < 1
one = omega arith

lookers : Lookers
lookers = record {
  reduction = (search (inl, inr) depth 9, λ e h. grind (arith, h));
  minimum = independent_alone W4 _ refl (λ d h. grind (arith, h));
  packed = (search (inl, inr) depth 9, λ e h. grind (arith, h));
  unmasked = (search (inl, inr) depth 9, λ e h. grind (arith, h));
  active = (search (inl, inr) depth 9, λ e h. grind (arith, h));
  unique = (search (inl, inr) depth 9, λ e h. grind (arith, h));
  print = (search (inl, inr) depth 9, λ e h. grind (arith, h));
  shared = (search (inl, inr) depth 9, λ e h. grind (arith, h));
  own = independent_alone W4 _ refl (λ d h. grind (arith, h));
}

assignments : Assignments
assignments = record {
  branch = (search (inl, inr) depth 9, λ e h. grind (arith, h));
  own = independent_alone W4 _ refl (λ d h. grind (arith, h));
  element = independent_alone W4 _ refl (λ d h. grind (arith, h));
  test = (search (inl, inr) depth 9, λ e h. grind (arith, h));
  together = independent_alone W4 _ refl (λ d h. grind (arith, h));
  broken = (search (inl, inr) depth 12, λ e h. grind (arith, h));
  counter = independent_alone W4 _ refl (λ d h. grind (arith, h));
  third = (search (inl, inr) depth 9, λ e h. grind (arith, h));
  rounds = (search (inl, inr) depth 12, λ e h. grind (arith, h));
}

turns : Turns
turns = record {
  turned = (search (inl, inr) depth 14, λ e h. grind (arith, h));
  counter = (search (inl, inr) depth 14, λ e h. grind (arith, h));
  own = independent_alone W4 _ refl (λ d h. grind (arith, h));
}

wholes : Wholes
wholes = record {
  whole = independent_alone W4 _ refl (λ d h. grind (arith, h));
  controlled = (search (inl, inr), λ e h. grind (arith, h));
  early = (search (inl, inr), λ e h. grind (arith, h));
  called = search (inl, inr);
  again = inr (0, _, record { caller = 0; reached = itself; calls = record { by = (_, refl, (0, one, refl)) } }, refl, search (inl, inr));
  result = (search (inl, inr), λ e h. grind (arith, h));
  varying_result = independent_alone W4 _ refl (λ d h. grind (arith, h));
}

firsts : Firsts
firsts = record {
  by_place = (search (inl, inr) depth 9, λ e h. record { order = grind (arith, h) });
  by_rule = (search (inl, inr) depth 14, λ e h. record { order = grind (arith, h) });
}

pub rules_of_samples : RulesOfSamples
rules_of_samples = record { lookers = lookers; assignments = assignments; turns = turns; wholes = wholes; firsts = firsts }
