-- Variables that count the lanes of a run or are known: nothing writes one, and what is known of it stays.
use Rattle.std.proofs.Common.{◌≡◌, ◌≢◌, ℕ, List, Option, Some, None, Bool, true, false, ◌⊎◌, inl, inr, refl, sym, ap, ◌∙◌, subst, eqb-true, eq-eqb}
use Rattle.std.specs.Prelude.{slice_get, nat_eq, ◌||◌}
use Rattle.isp_base.specs.Maps.{Lanes, put}
use Rattle.isp_base.specs.Sets.{Mask}
use Rattle.isp_base.specs.declared.types.Elem.{Elem}
use Rattle.isp_base.specs.declared.types.Rate.TheVariants.{Uniform}
use Rattle.isp_typed.specs.declared.variable.Variable.{Variable}
use Rattle.isp_steady.specs.Known.{Known, Unknown, Steady, Linear, is_known, elem_at, IsAsKnown, IsPart}
use Rattle.isp_lower_code.specs.Layout.{KnowsNothing, Layout, NoneFixed, is_counter_of, is_fixed, run_in, within}
use Rattle.isp_lower_code.specs.Setting.{IsOther, IsSettled, IsUniform, KnownHold, Setting, is_constant}
use Rattle.isp_lower_code.proofs.Base.{not_both, put_other}

or_first : (a b : Bool) → (a || b) ≡ false → a ≡ false
or_first true b e = absurd (cc)
or_first false b e = refl

or_second : (a b : Bool) → (a || b) ≡ false → b ≡ false
or_second true b e = absurd (cc)
or_second false b e = e

or_which : (a b : Bool) → (a || b) ≡ true → (a ≡ true) ⊎ (b ≡ true)
or_which true b e = inl refl
or_which false b e = inr e

counter_is : (o : Option ℕ) (v : ℕ) → is_counter_of o v ≡ true → o ≡ Some v
counter_is None v e = absurd (cc)
counter_is (Some i) v e = ap Some (sym (eqb-true v i e))

counter_of : (o : Option ℕ) (v : ℕ) → o ≡ Some v → is_counter_of o v ≡ true
counter_of o v e = ap (λ z. is_counter_of z v) e ∙ eq-eqb v v refl

unknown_of : (k : Known) → is_known k ≡ false → k ≡ Unknown
unknown_of Unknown e = refl
unknown_of Steady e = absurd (cc)
unknown_of Linear e = absurd (cc)

-- ---- which variables these are

module _ (l : Layout) where
  pub fixed_by : (v : ℕ) → is_fixed l v ≡ true → (l.run ≡ Some v) ⊎ (is_known (l.known v) ≡ true)
  fixed_by v e = by (or_which (is_counter_of l.run v) (is_known (l.known v)) e)
    where
      by : (is_counter_of l.run v ≡ true) ⊎ (is_known (l.known v) ≡ true) → (l.run ≡ Some v) ⊎ (is_known (l.known v) ≡ true)
      by (inl h) = inl (counter_is l.run v h)
      by (inr h) = inr h

  -- where there are none
  pub none_fixed : l.run ≡ None → KnowsNothing l → NoneFixed l
  none_fixed none nothing v = ap (λ o. is_counter_of o v || is_known (l.known v)) none ∙ ap is_known (nothing v)

  pub none_known : KnowsNothing l → (v : ℕ) → is_known (l.known v) ≡ true → ⊥
  none_known nothing v e = let no : true ≡ false = sym e ∙ ap is_known (nothing v) in cc

  module _ (none : NoneFixed l) where
    pub no_run : l.run ≡ None
    no_run = go l.run refl
      where
        go : (o : Option ℕ) → l.run ≡ o → l.run ≡ None
        go None e = e
        go (Some i) e =
            let no : true ≡ false = sym (counter_of l.run i e) ∙ or_first (is_counter_of l.run i) (is_known (l.known i)) (none i) in absurd (cc)

    pub knows_nothing : KnowsNothing l
    knows_nothing v = unknown_of (l.known v) (or_second (is_counter_of l.run v) (is_known (l.known v)) (none v))

-- in the body of a `foreach` by itself, its index alone is one
pub within_fixed : (l : Layout) (i v : ℕ) → NoneFixed l → is_fixed (within l i) v ≡ true → v ≡ i
within_fixed l i v none = go (l.loaded i) l.run (no_run l none)
  where
    by : (nat_eq v i ≡ true) ⊎ (is_known (l.known v) ≡ true) → v ≡ i
    by (inl h) = eqb-true v i h
    by (inr h) = absurd (none_known l (knows_nothing l none) v h)

    go : (d : Bool) (o : Option ℕ) → o ≡ None → is_fixed (run_in d o l i) v ≡ true → v ≡ i
    go false None e h = by (or_which (nat_eq v i) (is_known (l.known v)) h)
    go false (Some j) e h = absurd (cc)
    go true o e h = absurd (let no : true ≡ false = sym h ∙ none v in cc)

module _ (w : Setting) where
  pub other_run : (v i : ℕ) → IsOther w v → w.layout.run ≡ Some i → i ≢ v
  other_run v i other e same =
      let no : true ≡ false = sym (counter_of w.layout.run v (e ∙ ap Some same)) ∙ or_first (is_counter_of w.layout.run v) (is_known (w.layout.known v)) other in
      absurd (cc)

  pub other_known : (v u : ℕ) → IsOther w v → is_known (w.layout.known u) ≡ true → u ≢ v
  other_known v u other e same =
      let no : true ≡ false = sym e ∙ ap (λ z. is_known (w.layout.known z)) same ∙ or_second (is_counter_of w.layout.run v) (is_known (w.layout.known v)) other in
      absurd (cc)

  -- such a variable is a constant
  abbrev pub FixedConstant : Type 0
  FixedConstant = (v : ℕ) → is_fixed w.layout v ≡ true → is_constant (slice_get w.function.variables v) ≡ true

  module _ (ready : IsSettled w) where
    pub fixed_constant : FixedConstant
    fixed_constant v e = by (fixed_by w.layout v e)
      where
        by : (w.layout.run ≡ Some v) ⊎ (is_known (w.layout.known v) ≡ true) → is_constant (slice_get w.function.variables v) ≡ true
        by (inl h) = (ready.counter v h).constant
        by (inr h) = (ready.known v h).constant

    -- and no packed load writes it
    pub fixed_unloaded : (v : ℕ) → is_fixed w.layout v ≡ true → w.layout.loaded v ≡ false
    fixed_unloaded v e = by (fixed_by w.layout v e)
      where
        by : (w.layout.run ≡ Some v) ⊎ (is_known (w.layout.known v) ≡ true) → w.layout.loaded v ≡ false
        by (inl h) = (ready.counter v h).unloaded
        by (inr h) = (ready.known v h).unloaded

    -- a uniform variable is none that is known
    pub uniform_known : (v u : ℕ) → IsUniform w.function.variables v → is_known (w.layout.known u) ≡ true → u ≢ v
    uniform_known v u one e same =
        absurd (not_both w.function.variables u (ready.known u e).varying (subst (IsUniform w.function.variables) (sym same) one))

-- ---- what is known stays

module _ (vars : List Variable) (l : Layout) (members : Mask) where
  pub unknown_holds : (x : ℕ → ℕ) (each : ℕ → Lanes) → KnowsNothing l → KnownHold vars l members x each
  unknown_holds x each nothing v = subst (λ k. IsAsKnown k (elem_at vars v) (x (l.variable Uniform v)) (each v) members) (sym (nothing v)) tt

  -- while the scalars of known variables and their values do
  pub known_on : (x y : ℕ → ℕ) (f g : ℕ → Lanes) → ((v : ℕ) → is_known (l.known v) ≡ true → y (l.variable Uniform v) ≡ x (l.variable Uniform v))
      → ((v : ℕ) → is_known (l.known v) ≡ true → g v ≡ f v) → KnownHold vars l members x f → KnownHold vars l members y g
  known_on x y f g scalars values h v = go (l.known v) refl
    where
      by : is_known (l.known v) ≡ true → IsAsKnown (l.known v) (elem_at vars v) (y (l.variable Uniform v)) (g v) members
      by e =
          subst (λ u. IsAsKnown (l.known v) (elem_at vars v) u (g v) members) (sym (scalars v e))
          (subst (λ z. IsAsKnown (l.known v) (elem_at vars v) (x (l.variable Uniform v)) z members) (sym (values v e)) (h v))

      go : (k : Known) → l.known v ≡ k → IsAsKnown (l.known v) (elem_at vars v) (y (l.variable Uniform v)) (g v) members
      go Unknown e = subst (λ k. IsAsKnown k (elem_at vars v) (y (l.variable Uniform v)) (g v) members) (sym e) tt
      go Steady e = by (ap is_known e)
      go Linear e = by (ap is_known e)

  -- a scalar is written that is none of a known variable
  pub known_put : (x : ℕ → ℕ) (d z : ℕ) (f : ℕ → Lanes) → ((v : ℕ) → is_known (l.known v) ≡ true → l.variable Uniform v ≢ d) → KnownHold vars l members x f → KnownHold vars l members (put x d z) f
  known_put x d z f other h = known_on x (put x d z) f f (λ v e. put_other x d z (l.variable Uniform v) (other v e)) (λ v e. refl) h

-- of a part of the members too
pub known_part : (k : Known) (t : Elem) (u : ℕ) (z : Lanes) (a b : Mask) → IsPart b a → IsAsKnown k t u z a → IsAsKnown k t u z b
known_part Unknown t u z a b part h = tt
known_part Steady t u z a b part h = λ p on. h p (part p on)
known_part Linear t u z a b part h = λ p on. h p (part p on)
