-- What is found among the elements is the first clash.
use Rattle.std.proofs.Common.{◌≡◌, sym, ap, subst, ◌∙◌, ℕ, ◌<◌, ◌≤◌, ◌⊎◌, inl, inr, ⊎_elim, true, false, Some, None, arith}
use Rattle.std.proofs.lemmas.Bool.{cases_lt, true≢false}
use Rattle.isp_solo_meaning.specs.Answers.{Answer}
use Rattle.isp_solo_meaning.specs.Touched.{Clash, AreApart}
use Rattle.isp_solo_run.specs.Touches.{touched_by, is_clash}
use Rattle.isp_solo_run.specs.declared.touches.Touch.{Touch}
use Rattle.isp_solo_run.proofs.Touching.{clashes_are_found}
use Rattle.isp_solo.specs.Report.{FirstClash}
use Rattle.isp_solo.specs.Touched.{FirstOfAll}

module _ (run : ℕ → Answer ℕ) (gang : ℕ) (t : ℕ → ℕ → Touch) (is : (b e : ℕ) → t b e ≡ touched_by run gang b e) where
  seen : (b e : ℕ) → Clash gang run b e → is_clash (t b e) ≡ true
  seen b e c = ap is_clash (is b e) ∙ (clashes_are_found run gang b e).1 c

  never : (b e : ℕ) → is_clash (t b e) ≡ false → Clash gang run b e → ⊥
  never b e i c = true≢false (sym (seen b e c) ∙ i)

  pub apart_all : FirstOfAll t None → AreApart gang run
  apart_all none b e c = never b e (none b e) c

  pub clash_first : (b e : ℕ) → FirstOfAll t (Some (b, e)) → FirstClash gang run b e
  clash_first b e f = record {
    clash = (clashes_are_found run gang b e).0 (sym (ap is_clash (is b e)) ∙ f.0);
    first = λ c i k. ⊎_elim (λ (l : b < c). inl l) (λ l. inr (later c i k l)) (cases_lt b c);
  } where
    same : (c i : ℕ) → Clash gang run c i → c ≤ b → b ≡ c
    same c i k l = ⊎_elim (λ (h : c < b). absurd (never c i (f.1 c i h) k)) (λ h. omega (arith, h, l)) (cases_lt c b)

    later : (c i : ℕ) → Clash gang run c i → c ≤ b → (b ≡ c) × (e ≤ i)
    later c i k l =
        let j = same c i k l in
        (j, ⊎_elim (λ (h : i < e). absurd (never b i (f.2 i h) (subst (λ (z : ℕ). Clash gang run z i) (sym j) k))) (λ h. omega (arith, h)) (cases_lt i e))
