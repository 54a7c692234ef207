-- What the members of a set find at a place.
use Rattle.std.proofs.Common.{◌≡◌, ℕ, ◌<◌, ◌⊎◌, inl, inr, Bool, true, false, refl, sym, ap, ◌∙◌, subst, arith, true≢false}
use Rattle.std.specs.Prelude.{Option, Some, None, IsSome, if◌then◌else◌}
use Rattle.std.proofs.lemmas.Bool.{cases_eq}
use Rattle.std.proofs.lemmas.Bool.Decides.{nat_tests}
use Rattle.isp_base.specs.Access.{is_outside, element}
use Rattle.isp_base.specs.Sets.{Mask}
use Rattle.isp_base.specs.Maps.{on, or_old, each1}
use Rattle.isp_base.specs.Traps.{trap}
use Rattle.isp_base.specs.declared.trap.TrapKind.TheVariants.{Index}
use Rattle.isp_base.specs.declared.types.Elem.{Elem}
use Rattle.isp_base.specs.declared.types.Rate.{Rate}
use Rattle.isp_base.specs.declared.types.Rate.TheVariants.{Uniform, Varying}
use Rattle.isp_base.specs.declared.types.Span.{Span}
use Rattle.isp_typed.specs.Scoped.{Scope}
use Rattle.isp_typed.specs.declared.variable.ArrayVariable.{ArrayVariable}
use Rattle.isp_meaning.specs.State.{State, extent}
use Rattle.isp_meaning.specs.Payloads.{Payload, One, Each, spread, mapped, offender}
use Rattle.isp_meaning.specs.Places.{variable, elements}
use Rattle.isp_meaning.specs.Outcomes.{checked}
use Rattle.isp_solo_meaning.specs.Alone.{Alone, variable as own_variable, noted, put_in}
use Rattle.isp_solo_meaning.specs.Answers.{Answer, Has, Bad, choose}
use Rattle.isp_solo_meaning.specs.Values.{found}
use Rattle.isp_solo_laws.specs.Stands.{World, Within, TouchNothing, EndsWithin, Stands, AreSome, IsOpen}
use Rattle.isp_solo_laws.specs.Values.{AnswersAlone, Sim, Stand}
use Rattle.isp_solo_laws.proofs.Lanes.{no_offender, mapped_stand}
use Rattle.isp_solo_laws.proofs.Sims.{EndsIf, has_alone}

pub not_uniform : Varying ≡ Uniform → ⊥
not_uniform e = subst (λ (r : Rate). IsVarying r) e tt where
  IsVarying : Rate → Type 0
  IsVarying Varying = Unit {0}
  IsVarying Uniform = ⊥

-- ---- reading

abbrev read_if : Bool → (ℕ → ℕ → Bool) → ℕ → ℕ → ℕ → ℕ → Bool
read_if true r b e = put_in r b e true
read_if false r b e = r

-- a member has read there
abbrev noted_if : Bool → ℕ → ℕ → Alone → Alone
noted_if t b e s = record s { read = read_if t s.read b e }

noted_there : (b e : ℕ) (s : Alone) → (noted b e s).read b e ≡ true
noted_there b e s = grind (arith, nat_tests)

chosen_ends : {A : Type 0} (last : Alone) (t b : Bool) (f g : Alone → Answer A) (s : Alone) → ((z : Alone) → EndsWithin last (f z) → ⊥) → EndsIf last t (choose b f g s) → t ≡ true → (b ≡ false) × EndsWithin last (g s)
chosen_ends last true true f g s bad h e = absurd (bad s h)
chosen_ends last true false f g s bad h e = (refl, h)
chosen_ends last false b f g s bad h e = absurd (true≢false (sym e))

chosen_alone : {A : Type 0} (t b : Bool) (f g : Alone → Answer A) (s s1 : Alone) (x : A) → (t ≡ true → b ≡ false) → AnswersAlone t (g s) s x s1 → AnswersAlone t (choose b f g s) s x s1
chosen_alone true b f g s s1 x h e = ap (λ z. choose z f g s) (h refl) ∙ e
chosen_alone false b f g s s1 x h e = e

module _ (w : World) (touch : TouchNothing w.gang w.last) (v : Scope) (a : Mask) (in_gang : AreSome w.gang a) where
  -- what a member reads in a shared array no other has stored there, so the gang has what it has alone
  pub own_item : (s : State) (σ : ℕ → Alone) (p b e : ℕ) → Stands w s σ → p < w.gang → b < w.frame.opened → (w.last p).read b e ≡ true → s.arrays b e ≡ or_old ((σ p).wrote b e) (w.begin b e)
  own_item s σ p b e st lt open_ reads = go ((σ p).wrote b e) refl where
    none : (σ p).wrote b e ≡ None → (q : ℕ) → q < w.gang → (σ q).wrote b e ≡ None
    none i q lq = other (cases_eq q p) where
      no_store : (o : Option ℕ) → (σ q).wrote b e ≡ o → (q ≡ p → ⊥) → o ≡ None
      no_store None j d = refl
      no_store (Some x) j d = absurd (true≢false (sym reads ∙ touch.unread q p b e lq lt d ((st.within q lq).wrote b e (subst IsSome (sym j) refl))))

      other : (q ≡ p) ⊎ (q ≡ p → ⊥) → (σ q).wrote b e ≡ None
      other (inl j) = subst (λ n. (σ n).wrote b e ≡ None) (sym j) i
      other (inr d) = no_store ((σ q).wrote b e) refl d

    go : (o : Option ℕ) → (σ p).wrote b e ≡ o → s.arrays b e ≡ or_old ((σ p).wrote b e) (w.begin b e)
    go (Some x) i = st.stored p b e x lt open_ i ∙ sym (ap (λ o. or_old o (w.begin b e)) i)
    go None i = st.unstored b e open_ (none i) ∙ sym (ap (λ o. or_old o (w.begin b e)) i)

  -- ---- variables

  pub variable_sim : (r : Rate) (k : ℕ) (sp : Span) → (r ≡ Uniform → v k ≡ true) → Sim w v a (Stand w.gang a r) (λ s. checked None Index sp s (variable r k a s)) (λ p s. Has (own_variable r k s) s)
  variable_sim Uniform k sp h = record {
    go = λ s σ st sa ends.
        record {
          x = One (s.uniforms k);
          s = s;
          y = λ p. (σ p).uniforms k;
          after = σ;
          is = refl;
          alone = λ p. has_alone (a p) (σ p) ((σ p).uniforms k);
          value = record { at = λ p. at (a p) (s.uniforms k) ((σ p).uniforms k) (λ t. sym (sa p k t (h refl))); one = λ i e. tt };
          uniforms = refl;
          own_uniforms = λ p. refl;
          stands = st;
        };
  } where
    at : (t : Bool) (x y : ℕ) → (t ≡ true → x ≡ y) → (if t then Some x else None) ≡ (if t then Some y else None)
    at true x y e = ap Some (e refl)
    at false x y e = refl
  variable_sim Varying k sp h = record {
    go = λ s σ st sa ends.
        record {
          x = Each (on a (s.varying k));
          s = s;
          y = λ p. (σ p).varying k;
          after = σ;
          is = refl;
          alone = λ p. has_alone (a p) (σ p) ((σ p).varying k);
          value = record { at = λ p. ap (λ z. if a p then Some z else None) (st.varying_is k p); one = λ i e. absurd (not_uniform e) };
          uniforms = refl;
          own_uniforms = λ p. refl;
          stands = st;
        };
  }

  -- ---- elements

  each_at : (f g : ℕ → ℕ) (t : Bool) (y : ℕ) (o : Option ℕ) → o ≡ (if t then Some y else None) → (t ≡ true → f y ≡ g y) → each1 f o ≡ (if t then Some (g y) else None)
  each_at f g true y o e h = ap (each1 f) e ∙ ap Some (h refl)
  each_at f g false y o e h = ap (each1 f) e

  outside_not : (b : ArrayVariable) (t : Elem) (y : ℕ → ℕ) (sp : Span) (r : Rate) (σ : ℕ → Alone)
      → ((p : ℕ) → EndsIf (w.last p) (a p) (choose (is_outside t (extent w.frame b) (y p)) (Bad (trap Index sp p)) (found w.begin p w.frame r b (element t (y p))) (σ p))) → (p : ℕ) → a p ≡ true
      → (is_outside t (extent w.frame b) (y p) ≡ false) × EndsWithin (w.last p) (found w.begin p w.frame r b (element t (y p)) (σ p))
  outside_not b t y sp r σ ends p e = chosen_ends (w.last p) (a p) (is_outside t (extent w.frame b) (y p)) (Bad (trap Index sp p)) (found w.begin p w.frame r b (element t (y p))) (σ p) (λ z h. h) (ends p) e

  pub element_sim : (r q : Rate) (b : ArrayVariable) (t : Elem) (m : Payload) (y : ℕ → ℕ) (j : Rate) (sp : Span) → IsOpen w.frame r b.number → (q ≡ Uniform → r ≡ Uniform) → (q ≡ Uniform → j ≡ Uniform) → Stand w.gang a j m y
      → Sim w v a (Stand w.gang a q) (λ s. checked (offender w.gang (is_outside t (extent w.frame b)) a m) Index sp s (elements w.frame b t m a r s))
      (λ p s. choose (is_outside t (extent w.frame b) (y p)) (Bad (trap Index sp p)) (found w.begin p w.frame r b (element t (y p))) s)
  element_sim Varying q b t m y j sp open_ u1 u2 st_m = record {
    go = λ s σ st sa ends.
        let good = λ (p : ℕ) (e : a p ≡ true). outside_not b t y sp Varying σ ends p e in
        record {
          x = elements w.frame b t m a Varying s;
          s = s;
          y = λ p. (σ p).own b.number (element t (y p));
          after = σ;
          is = ap (λ o. checked o Index sp s (elements w.frame b t m a Varying s)) (no_offender w.gang a (is_outside t (extent w.frame b)) m y in_gang.some st_m.at (λ p e. (good p e).0));
          alone = λ p. chosen_alone (a p) (is_outside t (extent w.frame b) (y p)) (Bad (trap Index sp p))
              (found w.begin p w.frame Varying b (element t (y p))) (σ p) (σ p) ((σ p).own b.number (element t (y p))) (λ e. (good p e).0)
              (has_alone (a p) (σ p) ((σ p).own b.number (element t (y p))));
          value = record {
            at = λ p. each_at (λ x. s.own b.number (element t x) p) (λ x. (σ p).own b.number (element t x)) (a p) (y p) (spread a m p) (st_m.at p) (λ e. st.own_is b.number (element t (y p)) p);
            one = λ i e. absurd (not_uniform (u1 e));
          };
          uniforms = refl;
          own_uniforms = λ p. refl;
          stands = st;
        };
  }
  element_sim Uniform q b t m y j sp open_ u1 u2 st_m = record {
    go = λ s σ st sa ends.
        let c = w.frame.named b.number in
        let good = λ (p : ℕ) (e : a p ≡ true). outside_not b t y sp Uniform σ ends p e in
        let gives = λ (p : ℕ). or_old ((σ p).wrote c (element t (y p))) (w.begin c (element t (y p))) in
        record {
          x = mapped (λ x. s.arrays c (element t x)) m;
          s = s;
          y = gives;
          after = λ p. noted_if (a p) c (element t (y p)) (σ p);
          is = ap (λ o. checked o Index sp s (mapped (λ x. s.arrays c (element t x)) m)) (no_offender w.gang a (is_outside t (extent w.frame b)) m y in_gang.some st_m.at (λ p e. (good p e).0));
          alone = λ p. chosen_alone (a p) (is_outside t (extent w.frame b) (y p)) (Bad (trap Index sp p)) (found w.begin p w.frame Uniform b (element t (y p))) (σ p) (noted_if (a p) c (element t (y p)) (σ p)) (gives p) (λ e. (good p e).0)
              (noted_alone (a p) c (element t (y p)) (σ p) (gives p));
          value = record {
            at = λ p. (mapped_stand w.gang a j q (λ x. s.arrays c (element t x)) m y u2 st_m).at p
                ∙ same_if (a p) _ _ (λ e. own_item s σ p c (element t (y p)) st (in_gang.inside p e) open_
                ((good p e).1.read c (element t (y p)) (noted_there c (element t (y p)) (σ p))));
            one = (mapped_stand w.gang a j q (λ x. s.arrays c (element t x)) m y u2 st_m).one;
          };
          uniforms = refl;
          own_uniforms = λ p. refl;
          stands = record {
            varying_is = st.varying_is;
            own_is = st.own_is;
            result_is = st.result_is;
            stored = st.stored;
            unstored = st.unstored;
            within = λ p lt. noted_within (a p) (w.last p) c (element t (y p)) (σ p) (st.within p lt) (λ e. (good p e).1);
            silent = st.silent;
          };
        };
  } where
    same_if : (t : Bool) (x y : ℕ) → (t ≡ true → x ≡ y) → (if t then Some x else None) ≡ (if t then Some y else None)
    same_if true x y e = ap Some (e refl)
    same_if false x y e = refl

    noted_alone : (t : Bool) (c e : ℕ) (s : Alone) (x : ℕ) → AnswersAlone t (Has x (noted c e s)) s x (noted_if t c e s)
    noted_alone true c e s x = refl
    noted_alone false c e s x = refl

    noted_within : (t : Bool) (last : Alone) (c e : ℕ) (s : Alone) → Within last s → (t ≡ true → Within last (noted c e s)) → Within last (noted_if t c e s)
    noted_within true last c e s h k = k refl
    noted_within false last c e s h k = h
