-- The law of expressions on a sample: its premises, and what the gang computes.
use Rattle.std.proofs.Common.{◌≡◌, ℕ, ◌<◌, Bool, true, false, refl, sym, arith, true≢false}
use Rattle.std.specs.Prelude.{◌&&◌, nat_eq, nat_lt, if◌then◌else◌}
use Rattle.std.proofs.lemmas.Bool.Decides.{nat_tests}
use Rattle.isp_base.specs.Values.{number_to, wrap_to}
use Rattle.isp_base.specs.declared.types.Rate.{Rate}
use Rattle.isp_base.specs.declared.types.Rate.TheVariants.{Uniform, Varying}
use Rattle.isp_typed.specs.declared.variable.Holds.TheVariants.{Given}
use Rattle.isp_solo_laws.specs.Stands.{IsOpen}
use Rattle.isp_solo_laws.specs.Samples.{AgreementOfSamples, world}
use Rattle.isp_solo_laws.proofs.Grow.{stays}
use Rattle.isp_solo_laws.proofs.Lanes.{none_not}

is_there : (t : Bool) → (if t then true else false) ≡ true → t ≡ true
is_there true e = refl
is_there false e = e

below_four : (p : ℕ) → nat_lt p 4 ≡ true → p < 4
below_four p e = grind (arith, e, nat_tests)

open_one : (r : Rate) (k : ℕ) → IsOpen world.frame r k
open_one Uniform k = omega arith
open_one Varying k = tt

pub agreement_of_samples : AgreementOfSamples
unfolding number_to wrap_to
agreement_of_samples = record {
  touch = record { unread = λ p q b e lp lq two h. absurd (true≢false (sym h)); unwritten = λ p q b e lp lq two h. refl };
  calls_agree = record { more = λ p f place xs caller s. stays s; go = λ v a f g place xs ys found c some stand. absurd c };
  open_arrays = record { is = λ k x t found ty. open_one t.rate k };
  asked = record {
    fine = (record { variable = record { holds = Given _; constant = false }; is = refl; ty = refl; constant = refl }, tt, refl, (omega arith, omega arith));
    rates = λ f b. b;
    alone = λ d b. b;
    known = (refl, tt);
    calls = λ k h. let lt = h.1 in omega (arith, lt);
  };
  some = record { inside = λ p e. below_four p e; some = refl };
  stands = record {
    varying_is = λ k p. refl;
    own_is = λ k e p. refl;
    result_is = tt;
    stored = λ p b e x lp lb h. absurd (none_not x h);
    unstored = λ b e lb h. refl;
    within = λ p lp. record { read = λ b e h. absurd (true≢false (sym h)); wrote = λ b e h. h };
    silent = refl;
  };
  ends = record { read = λ b e h. is_there (nat_eq b 0 && nat_eq e 2) h; wrote = λ b e h. h };
  gives = refl;
}
