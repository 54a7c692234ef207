-- Variables and elements: what is held at a place and what is kept there, by the set of one instance and by it alone.
use Rattle.std.proofs.Common.{◌≡◌, ℕ, ◌<◌, inl, inr, ⊎_elim, Bool, true, false, refl, sym, ap, ap₂, ◌∙◌, subst, true≢false, eq-eqb}
use Rattle.std.proofs.Math.Path.{fun_ext}
use Rattle.std.proofs.lemmas.Bool.{cases_eq}
use Rattle.std.specs.Prelude.{Option, Some, None, ◌&&◌, if◌then◌else◌, nat_eq}
use Rattle.isp_base.specs.Access.{is_outside, element, scatter}
use Rattle.isp_base.specs.Maps.{Lanes, Map, over, or_old, each1, holds, put}
use Rattle.isp_base.specs.Sets.{lone}
use Rattle.isp_base.specs.Traps.{trap}
use Rattle.isp_base.specs.declared.types.Elem.{Elem}
use Rattle.isp_base.specs.declared.types.Rate.{Rate}
use Rattle.isp_base.specs.declared.types.Rate.TheVariants.{Uniform, Varying}
use Rattle.isp_base.specs.declared.trap.TrapKind.TheVariants.{Index}
use Rattle.isp_typed.specs.declared.variable.ArrayVariable.{ArrayVariable}
use Rattle.isp_typed.specs.Typed.{TPlace, t_variable, t_element, elem_of, rate_of, place_type, place_span}
use Rattle.isp_meaning.specs.Outcomes.{Gives, checked}
use Rattle.isp_meaning.specs.Payloads.{Payload, One, Each, sole, spread, mapped}
use Rattle.isp_meaning.specs.Places.{Place, Variable, Element, variable, written, stored, own_stored, elements, with_elements, outside, held, kept}
use Rattle.isp_meaning.specs.Simple.{cleared}
use Rattle.isp_meaning.specs.State.{State, extent}
use Rattle.isp_solo_meaning.specs.Alone.{Alone, put_in, variable as own_variable, written as own_written}
use Rattle.isp_solo_meaning.specs.Answers.{Bad, choose}
use Rattle.isp_solo_meaning.specs.Places.{Spot, AVariable, AnElement, outside as own_outside, element_kept, kept as own_kept, cleared as own_cleared_at}
use Rattle.isp_solo_meaning.specs.Values.{found, held as own_held}
use Rattle.isp_meaning_laws.specs.Lone.{World, Stands, IsValue}
use Rattle.isp_meaning_laws.proofs.LoneSets.{eq_itself, eq_true, eq_turned, just, just_is, just_here, scatter_lone}
use Rattle.isp_meaning_laws.proofs.LoneSims.{CameTo, Follows, not_uniform, as_rate, mapped_value, spread_value, uniform_value, offender_value, some_if}
use Rattle.isp_meaning_laws.proofs.LoneFair.{IsOpen, FairPlace}

-- ---- values at one number

-- a place of the gang and a spot of the instance: one variable, or one array at the same index
abbrev pub PlaceIs : ℕ → TPlace → Place → Spot → Type 0
PlaceIs p (t_variable k t sp) x z = (x ≡ Variable k t) × (z ≡ AVariable k t)
PlaceIs p (t_element b i t sp) x z = (m : Payload) × (y : ℕ) × (x ≡ Element b (elem_of i) m) × (z ≡ AnElement b (elem_of i) y) × IsValue p (rate_of i) m y

-- a change in one instance, seen from there
put_there : (f : ℕ → Lanes) (g : ℕ → ℕ) (x : Lanes) (v y p : ℕ) → x p ≡ y → ((k : ℕ) → f k p ≡ g k) → (k : ℕ) → put f v x k p ≡ put g v y k
put_there f g x v y p e h k = at (nat_eq k v) where
  at : (b : Bool) → (if b then x else f k) p ≡ (if b then y else g k)
  at true = e
  at false = h k

module _ (w : World) where
  pub over_there : (r : Rate) (m : Payload) (y : ℕ) (old : Lanes) → IsValue w.instance r m y → over (spread (lone (Some w.instance)) m) old w.instance ≡ y
  over_there r m y old h =
      ap (λ z. or_old z (old w.instance)) (ap (λ f. f w.instance) (spread_value w.instance r m y h) ∙ just_here w.instance y)

  -- ---- variables

  pub variable_value : (r : Rate) (v : ℕ) (s : State) (t : Alone) → Stands w s t → IsValue w.instance r (variable r v (lone (Some w.instance)) s) (own_variable r v t)
  variable_value Uniform v s t st = inl (ap (λ f. One (f v)) st.0)
  variable_value Varying v s t st = inr (refl, ap Each (just_is w.instance (s.varying v) (t.varying v) (st.1 v)))

  pub written_stands : (r q : Rate) (v : ℕ) (m : Payload) (y : ℕ) (s : State) (t : Alone) → Follows r q → IsValue w.instance q m y → Stands w s t
      → Stands w (written r v (lone (Some w.instance)) m s) (own_written r v y t)
  written_stands Uniform q v m y s t f h st =
      (ap₂ (λ u x. put u v x) st.0 (ap sole (uniform_value w.instance q m y (f refl) h)), st.1, st.2, st.3, st.4)
  written_stands Varying q v m y s t f h st =
      (st.0, put_there s.varying t.varying _ v y w.instance (over_there q m y (s.varying v) h) st.1, st.2, st.3, st.4)

  -- ---- elements

  -- read
  pub elements_value : (r q t : Rate) (b : ArrayVariable) (e : Elem) (m : Payload) (y : ℕ) (s : State) (u : Alone) → IsOpen w.frame r b.number → Follows t r → Follows t q → IsValue w.instance q m y → Stands w s u
      → CameTo w (IsValue w.instance t) (Gives (elements w.frame b e m (lone (Some w.instance)) r s) s) (found w.begin w.instance w.frame r b (element e y) u)
  elements_value Uniform q t b e m y s u o i j h st =
      let at = mapped_value w.instance (λ x. s.arrays (w.frame.named b.number) (element e x)) q m y h in
      record { by = (as_rate w.instance t q _ _ j (subst (IsValue w.instance q _) (st.4.0 (w.frame.named b.number) (element e y) o) at), st) }
  elements_value Varying q t b e m y s u o i j h st =
      record {
        by = (
          inr (
            varying t i,
            ap Each (fun_ext
                (λ k. ap (each1 (λ x. s.own b.number (element e x) k)) (ap (λ f. f k) (spread_value w.instance q m y h)) ∙ each_on k (nat_eq k w.instance))
                ∙ just_is w.instance (s.own b.number (element e y)) (u.own b.number (element e y)) (st.2 b.number (element e y))),
          ),
          st,
        );
      } where
        varying : (r : Rate) → Follows r Varying → r ≡ Varying
        varying Varying f = refl
        varying Uniform f = absurd (not_uniform (f refl))

        each_on : (k : ℕ) (c : Bool) → each1 (λ x. s.own b.number (element e x) k) (if c then Some y else None) ≡ (if c then Some (s.own b.number (element e y) k) else None)
        each_on k true = refl
        each_on k false = refl

  -- stored
  stored_at : (gang : ℕ) → w.instance < gang → (q r : Rate) (m n : Payload) (i y : ℕ) (f : Lanes) → IsValue w.instance q m i → IsValue w.instance r n y → stored gang (lone (Some w.instance)) m n f ≡ put f i y
  stored_at gang lt q r m n i y f (inl d) (inl e) = ap₂ (λ x z. stored gang (lone (Some w.instance)) x z f) d e
  stored_at gang lt q r m n i y f (inl d) (inr e) =
      ap₂ (λ x z. stored gang (lone (Some w.instance)) x z f) d e.1 ∙ scatter_lone w.instance gang i y f lt
  stored_at gang lt q r m n i y f (inr d) h =
      ap (λ x. stored gang (lone (Some w.instance)) x n f) d.1 ∙ ap (λ z. scatter gang (just w.instance i) z f) (spread_value w.instance r n y h) ∙ scatter_lone w.instance gang i y f lt

  shared_stored : (b e y : ℕ) (f : ℕ → ℕ → ℕ) (g : ℕ → ℕ → Option ℕ) → ((c i : ℕ) → c < w.frame.opened → f c i ≡ or_old (g c i) (w.begin c i))
      → (c i : ℕ) → c < w.frame.opened → put f b (put (f b) e y) c i ≡ or_old (put_in g b e (Some y) c i) (w.begin c i)
  shared_stored b e y f g h c i lt = ⊎_elim here there (cases_eq c b) where
    in_it : (k : Bool) → c ≡ b → (if k then y else f b i) ≡ or_old (if k then Some y else g c i) (w.begin c i)
    in_it true d = refl
    in_it false d = ap (λ z. f z i) (sym d) ∙ h c i lt

    here : c ≡ b → put f b (put (f b) e y) c i ≡ or_old (put_in g b e (Some y) c i) (w.begin c i)
    here d = by (nat_eq c b) (eq-eqb c b d) where
      by : (k : Bool) → k ≡ true → (if k then put (f b) e y else f c) i ≡ or_old (if k && nat_eq i e then Some y else g c i) (w.begin c i)
      by true z = in_it (nat_eq i e) d
      by false z = absurd (true≢false (sym z))

    there : (c ≡ b → ⊥) → put f b (put (f b) e y) c i ≡ or_old (put_in g b e (Some y) c i) (w.begin c i)
    there d = by (nat_eq c b) refl where
      by : (k : Bool) → nat_eq c b ≡ k → (if k then put (f b) e y else f c) i ≡ or_old (if k && nat_eq i e then Some y else g c i) (w.begin c i)
      by false z = h c i lt
      by true z = absurd (d (eq_true c b z))

  own_there : (b e y : ℕ) (x z : Map) (f : ℕ → ℕ → Lanes) (g : ℕ → ℕ → ℕ) → x w.instance ≡ Some e → z w.instance ≡ Some y → ((c i : ℕ) → f c i w.instance ≡ g c i)
      → (c i : ℕ) → put f b (own_stored x z (f b)) c i w.instance ≡ put_in g b e y c i
  own_there b e y x z f g ex ez h c i = by (nat_eq c b) refl where
    put_once : (k : Bool) → (c ≡ b) → (if k then y else f b i w.instance) ≡ (if k then y else g c i)
    put_once true d = refl
    put_once false d = ap (λ n. f n i w.instance) (sym d) ∙ h c i

    here : own_stored x z (f b) i w.instance ≡ (if nat_eq i e then y else f b i w.instance)
    here =
        ap₂ (λ j k. if holds (λ n. nat_eq n i) j then or_old k (f b i w.instance) else f b i w.instance) ex ez
        ∙ ap (λ (k : Bool). if k then y else f b i w.instance) (eq_turned e i)

    by : (k : Bool) → nat_eq c b ≡ k → (if k then own_stored x z (f b) else f c) i w.instance ≡ (if k && nat_eq i e then y else g c i)
    by true d = here ∙ put_once (nat_eq i e) (eq_true c b d)
    by false d = h c i

  pub elements_stand : (gang : ℕ) → w.instance < gang → (r q u : Rate) (b : ArrayVariable) (e : Elem) (m n : Payload) (i y : ℕ) (s : State) (t : Alone) → IsValue w.instance q m i → IsValue w.instance u n y → Stands w s t
      → Stands w (with_elements w.frame b e m (lone (Some w.instance)) gang r n s) (element_kept w.frame r b (element e i) y t)
  elements_stand gang lt Uniform q u b e m n i y s t h k st =
      let same = stored_at gang lt q u (mapped (element e) m) n (element e i) y (s.arrays (w.frame.named b.number)) (mapped_value w.instance (element e) q m i h) k in
      (st.0, st.1, st.2, st.3, (λ c j l. ap (λ z. put s.arrays (w.frame.named b.number) z c j) same ∙ shared_stored (w.frame.named b.number) (element e i) y s.arrays t.wrote st.4.0 c j l, st.4.1))
  elements_stand gang lt Varying q u b e m n i y s t h k st =
      let x = ap (λ f. f w.instance) (spread_value w.instance q (mapped (element e) m) (element e i) (mapped_value w.instance (element e) q m i h)) ∙ just_here w.instance (element e i) in
      let z = ap (λ f. f w.instance) (spread_value w.instance u n y k) ∙ just_here w.instance y in
      (st.0, st.1, own_there b.number (element e i) y (spread (lone (Some w.instance)) (mapped (element e) m)) (spread (lone (Some w.instance)) n) s.own t.own x z st.2, st.3, st.4)

  -- ---- places

  pub held_came : (gang : ℕ) → w.instance < gang → (q : TPlace) → (fs : _) (IsCallable : ℕ → Type 0) → FairPlace w.frame fs IsCallable q → (x : Place) (z : Spot) (s : State) (t : Alone) → PlaceIs w.instance q x z → Stands w s t
      → CameTo w (IsValue w.instance (place_type q).rate) (checked (outside gang w.frame x (lone (Some w.instance))) Index (place_span q) s (held gang w.frame x (lone (Some w.instance)) s)) (own_held w.begin w.instance w.frame (place_span q) z t)
  held_came gang lt (t_variable k t sp) fs c f x z s u r st =
      rw (r.0, r.1) (record { by = (variable_value t.rate k s u st, st) })
  held_came gang lt (t_element b i t sp) fs c f x z s u r st =
      rw (r.2, r.3) (
      let off = offender_value w.instance gang lt (is_outside (elem_of i) (extent w.frame b)) (rate_of i) r.0 r.1 r.4 in
      rw off (at (is_outside (elem_of i) (extent w.frame b) r.1))) where
        at : (k : Bool) → CameTo w (IsValue w.instance t.rate)
            (checked (some_if w.instance k) Index sp s (elements w.frame b (elem_of i) r.0 (lone (Some w.instance)) b.ty.rate s))
            (choose k (Bad (trap Index sp w.instance)) (found w.begin w.instance w.frame b.ty.rate b (element (elem_of i) r.1)) u)
        at true = record { by = (refl, st.4) }
        at false = elements_value b.ty.rate (rate_of i) t.rate b (elem_of i) r.0 r.1 s u f.1 f.2 f.3 r.4 st

  -- the index is outside in both or in none
  pub outside_is : (gang : ℕ) → w.instance < gang → (q : TPlace) (x : Place) (z : Spot) → PlaceIs w.instance q x z → outside gang w.frame x (lone (Some w.instance)) ≡ some_if w.instance (own_outside w.frame z)
  outside_is gang lt (t_variable k t sp) x z r = rw (r.0, r.1) refl
  outside_is gang lt (t_element b i t sp) x z r = rw (r.2, r.3) (offender_value w.instance gang lt (is_outside (elem_of i) (extent w.frame b)) (rate_of i) r.0 r.1 r.4)

  pub kept_stands : (gang : ℕ) → w.instance < gang → (q : TPlace) (u : Rate) (x : Place) (z : Spot) (n : Payload) (y : ℕ) (s : State) (t : Alone) → PlaceIs w.instance q x z → Follows (place_type q).rate u → IsValue w.instance u n y → Stands w s t
      → Stands w (kept gang w.frame x (lone (Some w.instance)) n s) (own_kept w.frame z y t)
  kept_stands gang lt (t_variable k t sp) u x z n y s a r f h st = rw (r.0, r.1) (written_stands t.rate u k n y s a f h st)
  kept_stands gang lt (t_element b i t sp) u x z n y s a r f h st =
      rw (r.2, r.3) (elements_stand gang lt b.ty.rate (rate_of i) u b (elem_of i) r.0 n r.1 y s a r.4 h st)

  -- a local array that is declared begins with zeros
  pub cleared_stands : (r : Rate) (v : ℕ) (s : State) (t : Alone) → r ≡ Varying → Stands w s t → Stands w (cleared w.frame r v (lone (Some w.instance)) s) (own_cleared_at w.frame r v t)
  cleared_stands Uniform v s t e st = absurd (not_uniform (sym e))
  cleared_stands Varying v s t e st = (st.0, st.1, λ c i. at c i (nat_eq c v), st.3, st.4) where
    zero_here : (i : ℕ) → (if nat_eq w.instance w.instance then 0 else s.own v i w.instance) ≡ 0
    zero_here i = ap (λ (k : Bool). if k then 0 else s.own v i w.instance) (eq_itself w.instance)

    at : (c i : ℕ) (k : Bool) → (if k then (λ e p. if nat_eq p w.instance then 0 else s.own v e p) else s.own c) i w.instance ≡ (if k then (λ e. 0) else t.own c) i
    at c i true = zero_here i
    at c i false = st.2 c i
