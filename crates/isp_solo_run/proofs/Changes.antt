-- Changes of the state alone.
use Rattle.std.proofs.Common.{◌≡◌, refl, sym, ap, ap₂, ◌∙◌, subst, ℕ, Option, Vec, Global}
use Rattle.isp_base.specs.Maps.{put}
use Rattle.isp_base.specs.declared.types.Rate.{Rate}
use Rattle.isp_base.specs.declared.types.Rate.TheVariants.{Uniform, Varying}
use Rattle.isp_solo_meaning.specs.Alone.{Alone, written}
use Rattle.isp_gang_values.specs.Growing.{values_of}
use Rattle.isp_solo_run.specs.Arrays.{wrote_seen, read_seen}
use Rattle.isp_solo_run.specs.Seen.{own_of}
use Rattle.isp_solo_run.specs.Tasks.{Changes, state_seen}
use Rattle.isp_solo_run.specs.declared.arrays.Arrays.{Arrays}
use Rattle.isp_solo_run.specs.declared.state.Single.{Single}

module _ (old : Single) where
  pub uniforms_changed : (v : Vec ℕ Global) (r : Rate) (n x : ℕ) → r ≡ Uniform → values_of v.items ≡ put (values_of old.here.uniforms.items) n x → Changes old (record old { here = record old.here { uniforms = v } }) (written r n x)
  uniforms_changed v r n x is e =
      subst (λ k. Changes old (record old { here = record old.here { uniforms = v } }) (written k n x)) (sym is)
      (record { state = ap (λ u. record (state_seen old) { uniforms = u }) e; frame = refl; same = refl })

  pub varying_changed : (v : Vec ℕ Global) (r : Rate) (n x : ℕ) → r ≡ Varying → values_of v.items ≡ put (values_of old.here.varying.items) n x → Changes old (record old { here = record old.here { varying = v } }) (written r n x)
  varying_changed v r n x is e =
      subst (λ k. Changes old (record old { here = record old.here { varying = v } }) (written k n x)) (sym is)
      (record { state = ap (λ u. record (state_seen old) { varying = u }) e; frame = refl; same = refl })

  pub own_changed : (v : Vec (Vec ℕ Global) Global) (f : Alone → Alone) (k : ℕ → ℕ → ℕ) → own_of v.items ≡ k → f (state_seen old) ≡ record (state_seen old) { own = k } → Changes old (record old { here = record old.here { own = v } }) f
  own_changed v f k e is =
      record { state = ap (λ u. record (state_seen old) { own = u }) e ∙ sym is; frame = refl; same = refl }

  pub arrays_changed : (a : Arrays) (f : Alone → Alone) (w : ℕ → ℕ → Option ℕ) → wrote_seen a.stores.items ≡ w
      → read_seen a.stores.items ≡ (state_seen old).read → f (state_seen old) ≡ record (state_seen old) { wrote = w }
      → Changes old (record old { arrays = a }) f
  arrays_changed a f w ew er is =
      record { state = ap₂ (λ u k. record (state_seen old) { wrote = u; read = k }) ew er ∙ sym is; frame = refl; same = refl }
