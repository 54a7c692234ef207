-- What is written where, and what a change of the state alone leaves to be done.
use Rattle.std.proofs.Common.{◌≡◌, refl, sym, ap, ap₂, ◌∙◌, subst, ℕ, List, Vec, Global}
use Rattle.isp_base.specs.Maps.{Lanes, over, put}
use Rattle.isp_base.specs.Sets.{Mask}
use Rattle.isp_base.specs.declared.types.Rate.{Rate}
use Rattle.isp_base.specs.declared.types.Rate.TheVariants.{Uniform, Varying}
use Rattle.isp_meaning.specs.State.{State, Frame}
use Rattle.isp_meaning.specs.Payloads.{Payload, sole, spread}
use Rattle.isp_meaning.specs.Places.{written}
use Rattle.isp_gang_values.specs.Growing.{values_of, lanes_of}
use Rattle.isp_gang_run.specs.Seen.{frame_seen, state_seen}
use Rattle.isp_gang_arrays.specs.Stores.{stores_of, own_of}
use Rattle.isp_gang_run.specs.Tasks.{rest, store_seen, Changes}
use Rattle.isp_gang_run.specs.declared.state.Evaluator.{Evaluator}

-- ---- one part of the state is written

module _ (old : Evaluator) where
  pub uniforms_changed : (v : Vec ℕ Global) (r : Rate) (n : ℕ) (a : Mask) (x : Payload) → r ≡ Uniform → values_of v.items ≡ put (values_of old.here.uniforms.items) n (sole x)
      → Changes old (record old { here = record old.here { uniforms = v } }) (written r n a x)
  uniforms_changed v r n a x is e =
      subst (λ k. Changes old (record old { here = record old.here { uniforms = v } }) (written k n a x)) (sym is)
      (record { state = λ w. ap (λ u. record (state_seen old w) { uniforms = u }) e; frame = refl; same = refl })

  pub varying_changed : (v : Vec (List ℕ) Global) (r : Rate) (n : ℕ) (a : Mask) (x : Payload) → r ≡ Varying → lanes_of v.items ≡ put (lanes_of old.here.varying.items) n (over (spread a x) (lanes_of old.here.varying.items n))
      → Changes old (record old { here = record old.here { varying = v } }) (written r n a x)
  varying_changed v r n a x is e =
      subst (λ k. Changes old (record old { here = record old.here { varying = v } }) (written k n a x)) (sym is)
      (record { state = λ w. ap (λ u. record (state_seen old w) { varying = u }) e; frame = refl; same = refl })

  pub stores_changed : (new : Evaluator) (f : State → State) (k : ℕ → ℕ → ℕ) → new ≡ record old { stores = new.stores } → stores_of new.stores.items ≡ k → ((w : ℕ) → f (state_seen old w) ≡ record (state_seen old w) { arrays = k }) → Changes old new f
  stores_changed new f k same e is =
      record {
        state = λ w. ap (λ (t : Evaluator). state_seen t w) same ∙ ap (λ u. record (state_seen old w) { arrays = u }) e ∙ sym (is w);
        frame = ap (λ (t : Evaluator). frame_seen t.here) same;
        same = same ∙ sym (ap (λ (t : Evaluator). record old { here = t.here; stores = new.stores }) same);
      }

  pub own_changed : (v : Vec (Vec (List ℕ) Global) Global) (f : State → State) (k : ℕ → ℕ → Lanes) → own_of v.items ≡ k
      → ((w : ℕ) → f (state_seen old w) ≡ record (state_seen old w) { own = k }) → Changes old (record old { here = record old.here { own = v } }) f
  own_changed v f k e is =
      record { state = λ w. ap (λ u. record (state_seen old w) { own = u }) e ∙ sym (is w); frame = refl; same = refl }

-- ---- what is left to do then

module _ (old new : Evaluator) (f : State → State) (c : Changes old new f) where
  pub changed_rest : rest new ≡ rest old
  changed_rest = ap (λ (e : Evaluator). rest e) c.same

  pub changed_store : (w : ℕ) → store_seen new w ≡ record (store_seen old w) { state = f (state_seen old w) }
  changed_store w =
      ap (λ (e : Evaluator). store_seen e w) c.same
      ∙ ap₂ (λ (r : Frame) (s : State). record (store_seen old w) { frame = r; state = s }) c.frame (sym (ap (λ (e : Evaluator). state_seen e w) c.same) ∙ c.state w)
