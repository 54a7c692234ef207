-- In how many runs a gang takes so many numbers.
use Rattle.std.proofs.Common.{◌≡◌, sym, ap, ◌∙◌, ℕ, suc, ◌+◌, ◌-◌, ◌/◌, ◌<◌, ◌≤◌, ◌⊎◌, inl, inr, arith}
use Rattle.std.proofs.Math.Nat.{add-div_right, div-eq_of_lt}
use Rattle.isp_meaning.specs.Rounds.{runs_for}

pub no_run : (gang : ℕ) → 0 < gang → runs_for gang 0 ≡ 0
no_run gang some = div-eq_of_lt (omega (arith, some))

-- as many more as a gang has are one run more
one_gang_more : (gang n : ℕ) → 0 < gang → (n + gang) / gang ≡ suc (n / gang)
one_gang_more gang n some = omega (arith, add-div_right n some)

-- where a run is taken, there is one run less after it
pub one_run : (gang x y : ℕ) → 0 < gang → (x ≡ y + gang) ⊎ ((0 < x) × (x ≤ gang) × (y ≡ 0)) → runs_for gang x ≡ suc (runs_for gang y)
one_run gang x y some (inl e) =
    let same : x + (gang - 1) ≡ (y + (gang - 1)) + gang = omega (arith, e, some) in
    ap (λ n. n / gang) same ∙ one_gang_more gang (y + (gang - 1)) some
one_run gang x y some (inr h) =
    let same : x + (gang - 1) ≡ (x - 1) + gang = omega (arith, h.0, some) in
    let none : (x - 1) / gang ≡ 0 = div-eq_of_lt (omega (arith, h.0, h.1)) in
    let last : (y + (gang - 1)) / gang ≡ 0 = div-eq_of_lt (omega (arith, h.2, some)) in
    ap (λ n. n / gang) same ∙ one_gang_more gang (x - 1) some ∙ ap suc (none ∙ sym last)
