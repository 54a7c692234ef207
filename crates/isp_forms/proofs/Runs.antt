-- Runs of the machine are runs by forms, which go on from each other; where all forms are kept there are no others.
use Rattle.std.proofs.Common.{◌≡◌, inl, inr, ℕ, zero, suc, ◌+◌, refl, ap, ◌∙◌, subst, arith}
use Rattle.isp_code.specs.Conf.{Conf, State, Runs, Trapped, Ended}
use Rattle.isp_code.specs.Listing.{Listing}
use Rattle.isp_code.specs.Machine.{advance, after}
use Rattle.isp_forms.specs.Laws.{RunsByForms}
use Rattle.isp_forms.specs.Runs.{Forms, all_kept, IsStep, IsRun, LooksLike, StatesLook, AreHarmless}
use Rattle.isp_forms.specs.declared.form.Form.TheVariants.{Kept, Free, Useless, KeptBy, FreeBy}

module _ (code : Listing) (forms : Forms) where
  pub own_run : (m : ℕ) (s t : State) → after code m s ≡ t → IsRun code forms m s t
  own_run zero s t e = e
  own_run (suc m) s t e = (after code m s, own_run m s (after code m s) refl, inl e)

  pub runs_join : (a b : ℕ) (s t u : State) → IsRun code forms a s t → IsRun code forms b t u → IsRun code forms (b + a) s u
  runs_join a zero s t u r e = subst (λ n. IsRun code forms n s u) (let same : a ≡ zero + a = omega arith in same) (subst (IsRun code forms a s) e r)
  runs_join a (suc b) s t u r q =
      subst (λ n. IsRun code forms n s u) (let same : suc (b + a) ≡ suc b + a = omega arith in same)
      (let v = q.0 in (v, runs_join a b s t v r (q.1), q.2))

-- ---- where all are kept

not_free : Kept ≡ Free → ⊥
not_free e = cc

not_useless : Kept ≡ Useless → ⊥
not_useless e = cc

not_kept_by : (b : ℕ) → Kept ≡ KeptBy b → ⊥
not_kept_by b e = cc

not_free_by : (b : ℕ) → Kept ≡ FreeBy b → ⊥
not_free_by b e = cc

module _ (code : Listing) where
  kept_step : (s t : State) → IsStep code all_kept s t → advance code s ≡ t
  kept_step (Runs c) t (inl e) = e
  kept_step (Runs c) t (inr (inl f)) = absurd (not_free f.before.form_is)
  kept_step (Runs c) t (inr (inr (inl f))) = absurd (not_useless f.before.form_is)
  kept_step (Runs c) t (inr (inr (inr (inl f)))) = absurd (not_kept_by f.at.amount f.at.before.form_is)
  kept_step (Runs c) t (inr (inr (inr (inr f)))) = absurd (not_free_by f.at.amount f.at.before.form_is)
  kept_step (Trapped x c) t (inl e) = e
  kept_step (Trapped x c) t (inr f) = absurd f
  kept_step (Ended x c) t (inl e) = e
  kept_step (Ended x c) t (inr f) = absurd f

  pub kept_run : (m : ℕ) (s t : State) → IsRun code all_kept m s t → after code m s ≡ t
  kept_run zero s t e = e
  kept_run (suc m) s t r = ap (advance code) (kept_run m s r.0 r.1) ∙ kept_step r.0 t r.2

  looks_same : (c : Conf) → LooksLike c c
  looks_same c = record { home_is = refl; waiting_is = refl; arrays_are = refl; out_is = refl }

  state_looks : (s : State) → StatesLook s s
  state_looks (Runs c) = looks_same c
  state_looks (Trapped t c) = (refl, looks_same c)
  state_looks (Ended x c) = (refl, looks_same c)

  pub kept_harmless : (c : Conf) → AreHarmless code all_kept c
  kept_harmless c m t r = subst (StatesLook (after code m (Runs c))) (kept_run m (Runs c) t r) (state_looks (after code m (Runs c)))

pub runs_by_forms : RunsByForms
runs_by_forms = record { own = own_run; joined = runs_join; kept = kept_run; harmless = kept_harmless }
