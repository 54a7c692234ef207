-- The lowest lane of a mask whose bits fail, one lane after the other.
use Rattle.std.proofs.Common.{◌≡◌, refl, sym, ap, ap₂, ◌∙◌, subst, ⊎_elim, ℕ, zero, suc, ◌+◌, ◌<◌, Bool, true, false, Option, Some, None, arith, add-one}
use Rattle.std.specs.Prelude.{if◌then◌else◌}
use Rattle.std.proofs.lemmas.Bool.{cases_eq}
use Rattle.isp_base.specs.Maps.{Lanes, on, holds, where_true, lowest_failing}
use Rattle.isp_base.specs.Sets.{Mask, lowest, or_this}

module _ (fails : ℕ → Bool) (a : Mask) (x : Lanes) where
  at : (p : ℕ) (b : Bool) → a p ≡ b → where_true fails (on a x) p ≡ holds fails (if b then Some (x p) else None)
  at p b e = ap (λ t. holds fails (if t then Some (x p) else None)) e

  step : (p : ℕ) → lowest_failing p fails (on a x) ≡ None → where_true fails (on a x) p ≡ false → lowest_failing (p + 1) fails (on a x) ≡ None
  step p none off = ap (λ k. lowest k (where_true fails (on a x))) (add-one p) ∙ ap₂ (λ o b. or_this o b p) none off

  pub past_off : (p : ℕ) → lowest_failing p fails (on a x) ≡ None → a p ≡ false → lowest_failing (p + 1) fails (on a x) ≡ None
  past_off p none off = step p none (at p false off)

  pub past_fine : (p : ℕ) → lowest_failing p fails (on a x) ≡ None → a p ≡ true → fails (x p) ≡ false → lowest_failing (p + 1) fails (on a x) ≡ None
  past_fine p none is fine = step p none (at p true is ∙ fine)

  pub all_fine : (n : ℕ) → ((p : ℕ) → p < n → fails (x p) ≡ false) → lowest_failing n fails (on a x) ≡ None
  all_fine zero fine = refl
  all_fine (suc n) fine = ap (λ k. lowest_failing k fails (on a x)) (sym (add-one n)) ∙ by (all_fine n (λ p h. fine p (omega (arith, h)))) (a n) refl
    where
      by : lowest_failing n fails (on a x) ≡ None → (b : Bool) → a n ≡ b → lowest_failing (n + 1) fails (on a x) ≡ None
      by so_far true is = past_fine n so_far is (fine n (omega arith))
      by so_far false off = past_off n so_far off

  pub found : (n p : ℕ) → p < n → lowest_failing p fails (on a x) ≡ None → a p ≡ true → fails (x p) ≡ true → lowest_failing n fails (on a x) ≡ Some p
  found zero p h none is bad = absurd (omega (arith, h))
  found (suc n) p h none is bad = ⊎_elim (λ e. here e) (λ ne. ap (λ o. or_this o (where_true fails (on a x) n) n) (found n p (omega (arith, h, ne)) none is bad)) (cases_eq p n)
    where
      here : p ≡ n → or_this (lowest_failing n fails (on a x)) (where_true fails (on a x) n) n ≡ Some p
      here e = ap₂ (λ o b. or_this o b n) (subst (λ k. lowest_failing k fails (on a x) ≡ None) e none) (subst (λ k. where_true fails (on a x) k ≡ true) e (at p true is ∙ bad)) ∙ ap Some (sym e)

  or_none : (o : Option ℕ) (b : Bool) (n : ℕ) → or_this o b n ≡ None → (o ≡ None) × (b ≡ false)
  or_none (Some p) b n e = cc
  or_none None true n e = cc
  or_none None false n e = (refl, refl)

  pub none_fails : (n : ℕ) → lowest_failing n fails (on a x) ≡ None → (p : ℕ) → p < n → a p ≡ true → fails (x p) ≡ false
  none_fails zero e p h is = absurd (omega (arith, h))
  none_fails (suc n) e p h is =
      let both = or_none (lowest_failing n fails (on a x)) (where_true fails (on a x) n) n e in
      ⊎_elim (λ (s : p ≡ n). sym (at p true is) ∙ subst (λ k. where_true fails (on a x) k ≡ false) (sym s) both.1) (λ ne. none_fails n both.0 p (omega (arith, h, ne)) is) (cases_eq p n)
