-- Where the body of a `foreach` begins, the scalars of its indices are set: the members have each index as it is known, by its scalar.
use Rattle.std.proofs.Common.{◌≡◌, ℕ, ◌+◌, List, [], ◌∷◌, length, Option, Some, None, Bool, true, false, refl, sym, ap, ap₂, ◌∙◌, subst, arith, eqb-true, eq-eqb}
use Rattle.std.specs.Prelude.{◌≢◌, ℤ, pos, ◌+ℤ◌, nat_eq, slice_get, if◌then◌else◌}
use Rattle.isp_base.specs.Maps.{Lanes, put}
use Rattle.isp_base.specs.Sets.{Mask}
use Rattle.isp_base.specs.Values.{convert_bits, number, wrap}
use Rattle.isp_base.specs.declared.types.Elem.{Elem}
use Rattle.isp_base.specs.declared.types.Elem.TheVariants.{I32, I64}
use Rattle.isp_base.specs.declared.types.Rate.TheVariants.{Uniform}
use Rattle.isp_code.specs.Conf.{Conf, Go}
use Rattle.isp_code.specs.Lines.{act}
use Rattle.isp_code.specs.declared.instr.Instr.{Instr}
use Rattle.isp_typed.specs.Indices.{foreach_index}
use Rattle.isp_typed.specs.Typed.{TRange}
use Rattle.isp_meaning.specs.Payloads.{One}
use Rattle.isp_meaning.specs.State.{State}
use Rattle.isp_steady.specs.Indices.{indices_of, known_indices}
use Rattle.isp_steady.specs.Known.{IsAsKnown, Known, Linear, Steady, Unknown, counted_on, elem_at, type_in}
use Rattle.isp_lower_code.specs.Consecutive.{CountsFrom}
use Rattle.isp_lower_code.specs.Indices.{AreApart, EachIndex}
use Rattle.isp_lower_code.specs.Instructions.{convert, copy}
use Rattle.isp_lower_code.specs.Layout.{NoneFixed}
use Rattle.isp_lower_code.specs.Runs.{Comes}
use Rattle.isp_lower_code.specs.Setting.{AreAt, At, IsSettled, IsUniform, IsVarying, Setting, Spares, Stands, gang_of}
use Rattle.isp_lower_code.specs.Tables.{IsTyped}
use Rattle.isp_lower_code.proofs.Lemmas.{at_to, comes_none, comes_on, knows_nothing, no_run, none_holds, none_known, not_both, put_other, put_same, scalar_put, set_at, set_comes, set_goes, spares_all, spares_on, unknown_holds}
use Rattle.isp_masks_code.specs.Free.{last_index_of}
use Rattle.isp_masks_code.specs.Ranges.{narrow, singles_code}
use Rattle.isp_masks_code.proofs.Bodies.{IsInSlot, OutersAre}
use Rattle.isp_masks_code.proofs.Numbered.{wrapped_sum}
use Rattle.isp_masks_code.proofs.Outers.{other_slot, outer_slots, with_slot}
use Rattle.isp_masks_code.proofs.Parts.{RangesConstant}

-- a variable that is no index is not the last of them
last_other : (rs : List TRange) (i v : ℕ) → last_index_of rs ≡ Some i → EachIndex (λ j. v ≢ j) rs → v ≢ i
last_other [] i v e ne = absurd (cc)
last_other (r ∷ []) i v e ne = let same : r.index ≡ i = cc in λ is. ne.0 (is ∙ sym same)
last_other (r ∷ q ∷ rs) i v e ne = last_other (q ∷ rs) i v e ne.1

module _ (w : Setting) (ready : IsSettled w) (free : NoneFixed w.layout) where
  abbrev pub single : ℕ → ℕ
  single v = w.layout.variable Uniform v

  abbrev place : ℕ
  place = w.layout.place Uniform

  varies : (i : ℕ) → slice_get w.function.variables i ≡ Some foreach_index → IsVarying w.function.variables i
  varies i e = (I32, record { constant = true; is = e })

  -- ---- the scalar register of a varying variable is set

  module _ (i : ℕ) (c : Conf) (y : ℕ) where
    abbrev now : Conf
    now = set_at Uniform c (single i) (One y)

    single_stands : (s : State) → slice_get w.function.variables i ≡ Some foreach_index → Stands w s c → Stands w s now
    single_stands s is st = record {
      uniforms = λ v one. put_other c.scalars (single i) y (single v) (ready.apart.variables Uniform v i (other v one)) ∙ st.uniforms v one;
      varying = st.varying;
      result = put_other c.scalars (single i) y (w.layout.result Uniform) (ready.apart.result_variable Uniform i) ∙ st.result;
      results = st.results;
      own_arrays = st.own_arrays;
      arrays_are = st.arrays_are;
      out_is = st.out_is;
      run = none_holds w.layout.run w.start w.members (put c.scalars (single i) y place) s.varying (no_run w.layout free);
      known = unknown_holds w.function.variables w.layout w.members (put c.scalars (single i) y) s.varying (knows_nothing w.layout free);
      constants = scalar_put w.layout (gang_of w) c.scalars c.vectors (single i) y (λ t b k. ready.apart.kept_variable Uniform t b i k) st.constants;
    }
      where
        other : (v : ℕ) → IsUniform w.function.variables v → v ≢ i
        other v one same = not_both w.function.variables i (varies i is) (subst (IsUniform w.function.variables) same one)

    single_spares : (j : ℕ) → Spares w j c now
    single_spares j = record {
      scalars_stay = λ t k lt. put_other c.scalars (single i) y (w.layout.spare Uniform t k) (λ e. ready.apart.variable_spare Uniform t i k (sym e));
      vectors_stay = λ t k lt. refl;
      fresh_scalars = λ k. put_other c.scalars (single i) y (w.layout.fresh Uniform k) (λ e. ready.apart.variable_fresh Uniform i k (sym e));
      fresh_vectors = λ k. refl;
      singles_stay = λ v is. absurd (none_known w.layout (knows_nothing w.layout free) v is);
    }

    single_place : now.scalars place ≡ c.scalars place
    single_place = put_other c.scalars (single i) y place (ready.apart.place_variable Uniform i)

    in_slot : (o : Option ℕ) (a : Mask) (x : Lanes) → IsInSlot w o a x c → IsInSlot w o a x now
    in_slot None a x f = tt
    in_slot (Some j) a x f = λ p on_p. f p on_p ∙ sym (put_other c.scalars (single i) y (narrow w.layout j) (λ e. ready.apart.variable_spare Uniform I32 i j (sym e)))

  -- ---- all of them

  pub record SinglesSet (rs : List TRange) (m pc : ℕ) (a : Mask) (s : State) (c : Conf) : Type 0 where
    pub conf : Conf
    pub comes : Comes w c (length (singles_code w.layout rs m)) conf
    pub at : At w conf (pc + length (singles_code w.layout rs m))
    pub spares : (j : ℕ) → Spares w j c conf
    pub masks : conf.masks ≡ c.masks
    pub stands : Stands w s conf
    pub place_is : conf.scalars place ≡ c.scalars place
    pub others : (v : ℕ) → EachIndex (λ i. v ≢ i) rs → conf.scalars (single v) ≡ c.scalars (single v)
    pub known : (v : ℕ) → IsAsKnown (known_indices (indices_of rs) v) (elem_at w.function.variables v) (conf.scalars (single v)) (s.varying v) a

  -- what is asked of the indices
  pub record MayBeSet (rs : List TRange) : Type 0 where
    pub apart : AreApart rs
    pub constant : RangesConstant w rs
    pub typed : EachIndex (λ i. IsTyped w Uniform (single i) I32) rs

  module _ (a : Mask) (s : State) (i : ℕ) (place_typed : IsTyped w Uniform place I64) where
    last_set : (r : TRange) (m pc : ℕ) (c : Conf) → r.index ≡ i → MayBeSet (r ∷ []) → AreAt w.routine.code pc (singles_code w.layout (r ∷ []) m) → At w c pc
        → Stands w s c → CountsFrom (number I64 (c.scalars place)) a (s.varying i) → SinglesSet (r ∷ []) m pc a s c
    last_set r m pc c last may has at st counts = record {
      conf = c1;
      comes = set_comes w ready Uniform c d (One b) pc (convert Uniform d place 0) at has.0 conv_is;
      at = set_goes w ready Uniform c d (One b) pc at;
      spares = single_spares r.index c b;
      masks = refl;
      stands = single_stands r.index c b s may.constant.0 st;
      place_is = single_place r.index c b;
      others = λ v ne. put_other c.scalars d b (single v) (ready.apart.variables Uniform v r.index ne.0);
      known = λ v. known v (nat_eq v r.index) refl;
    }
      where
        d : ℕ
        d = single r.index

        z : ℤ
        z = number I64 (c.scalars place)

        b : ℕ
        b = wrap I32 z

        c1 : Conf
        c1 = set_at Uniform c d (One b)

        conv_is : act w.code w.routine c (convert Uniform d place 0) ≡ Go (set_at Uniform c d (One b))
        conv_is = ap₂ (λ t r1. Go (set_at Uniform c d (One (convert_bits t (number r1 (c.scalars place)))))) may.typed.0 place_typed

        here : (p : ℕ) → a p ≡ true → s.varying r.index p ≡ counted_on (elem_at w.function.variables r.index) (c1.scalars d) p
        here p on_p =
            ap (λ j. s.varying j p) last ∙ counts.is p on_p ∙ sym (wrapped_sum z p)
            ∙ ap₂ (λ t u. counted_on t u p) (sym (ap type_in may.constant.0)) (sym (put_same c.scalars d b))

        known : (v : ℕ) (q : Bool) → nat_eq v r.index ≡ q → IsAsKnown (if nat_eq v r.index then Linear else Unknown) (elem_at w.function.variables v) (c1.scalars (single v)) (s.varying v) a
        known v true e =
            subst (λ q. IsAsKnown (if q then Linear else Unknown) (elem_at w.function.variables v) (c1.scalars (single v)) (s.varying v) a) (sym e)
            (subst (λ u. IsAsKnown Linear (elem_at w.function.variables u) (c1.scalars (single u)) (s.varying u) a) (sym (eqb-true v r.index e)) here)
        known v false e = subst (λ q. IsAsKnown (if q then Linear else Unknown) (elem_at w.function.variables v) (c1.scalars (single v)) (s.varying v) a) (sym e) tt

    more_set : (r q : TRange) (rs : List TRange) (m pc : ℕ) (slots : ℕ → Option ℕ) (c : Conf)
        → ((c1 : Conf) → At w c1 (pc + 1) → Stands w s c1 → c1.scalars place ≡ c.scalars place → OutersAre w (outer_slots (r ∷ q ∷ rs) m slots) i a s c1 → SinglesSet (q ∷ rs) (m + 1 + 1) (pc + 1) a s c1)
        → r.index ≢ i → MayBeSet (r ∷ q ∷ rs) → AreAt w.routine.code pc (singles_code w.layout (r ∷ q ∷ rs) m) → At w c pc
        → Stands w s c → OutersAre w (outer_slots (r ∷ q ∷ rs) m slots) i a s c → SinglesSet (r ∷ q ∷ rs) m pc a s c
    more_set r q rs m pc slots c rest not_last may has at st outers = record {
      conf = o.conf;
      comes = subst (λ k. Comes w c k o.conf) size (comes_on w c c1 o.conf 1 (length tail) comes1 o.comes);
      at = at_to w o.conf (pc + 1 + length tail) (pc + length (singles_code w.layout (r ∷ q ∷ rs) m)) o.at (omega arith);
      spares = λ j. spares_on w j c c1 o.conf (single_spares r.index c y j) (o.spares j);
      masks = o.masks;
      stands = o.stands;
      place_is = o.place_is ∙ single_place r.index c y;
      others = λ v ne. o.others v ne.1 ∙ put_other c.scalars d y (single v) (ready.apart.variables Uniform v r.index ne.0);
      known = λ v. known v (nat_eq v r.index) refl;
    }
      where
        d : ℕ
        d = single r.index

        y : ℕ
        y = c.scalars (narrow w.layout (m + 1))

        c1 : Conf
        c1 = set_at Uniform c d (One y)

        tail : List Instr
        tail = singles_code w.layout (q ∷ rs) (m + 1 + 1)

        size : 1 + length tail ≡ length (singles_code w.layout (r ∷ q ∷ rs) m)
        size = omega arith

        comes1 : Comes w c 1 c1
        comes1 = set_comes w ready Uniform c d (One y) pc (copy Uniform d (narrow w.layout (m + 1)) 0) at has.0 refl

        o : SinglesSet (q ∷ rs) (m + 1 + 1) (pc + 1) a s c1
        o = rest c1 (set_goes w ready Uniform c d (One y) pc at) (single_stands r.index c y s may.constant.0 st) (single_place r.index c y)
            (λ v ne. in_slot r.index c y (outer_slots (r ∷ q ∷ rs) m slots v) a (s.varying v) (outers v ne))

        slot_is : outer_slots (r ∷ q ∷ rs) m slots r.index ≡ Some (m + 1)
        slot_is =
            other_slot (q ∷ rs) (m + 1 + 1) r.index (with_slot r.index (m + 1) slots) may.apart.0
            ∙ ap (λ b. if b then Some (m + 1) else slots r.index) (eq-eqb r.index r.index refl)

        here : (p : ℕ) → a p ≡ true → s.varying r.index p ≡ o.conf.scalars d
        here p on_p =
            subst (λ k. IsInSlot w k a (s.varying r.index) c) slot_is (outers r.index not_last) p on_p
            ∙ sym (o.others r.index may.apart.0 ∙ put_same c.scalars d y)

        after : List ℕ
        after = indices_of (q ∷ rs)

        known : (v : ℕ) (b : Bool) → nat_eq v r.index ≡ b
            → IsAsKnown (if nat_eq v r.index then Steady else known_indices after v) (elem_at w.function.variables v) (o.conf.scalars (single v)) (s.varying v) a
        known v true e =
            subst (λ b. IsAsKnown (if b then Steady else known_indices after v) (elem_at w.function.variables v) (o.conf.scalars (single v)) (s.varying v) a) (sym e)
            (subst (λ u. IsAsKnown Steady (elem_at w.function.variables u) (o.conf.scalars (single u)) (s.varying u) a) (sym (eqb-true v r.index e)) here)
        known v false e =
            subst (λ b. IsAsKnown (if b then Steady else known_indices after v) (elem_at w.function.variables v) (o.conf.scalars (single v)) (s.varying v) a) (sym e) (o.known v)

    pub singles_set : (rs : List TRange) (m pc : ℕ) (slots : ℕ → Option ℕ) (c : Conf) → last_index_of rs ≡ Some i → MayBeSet rs
        → AreAt w.routine.code pc (singles_code w.layout rs m) → At w c pc → Stands w s c → CountsFrom (number I64 (c.scalars place)) a (s.varying i)
        → OutersAre w (outer_slots rs m slots) i a s c → SinglesSet rs m pc a s c
    singles_set [] m pc slots c e may has at st counts outers = absurd (cc)
    singles_set (r ∷ []) m pc slots c e may has at st counts outers = let same : r.index ≡ i = cc in last_set r m pc c same may has at st counts
    singles_set (r ∷ q ∷ rs) m pc slots c e may has at st counts outers =
        more_set r q rs m pc slots c
        (λ c1 at1 st1 same outers1.
        singles_set (q ∷ rs) (m + 1 + 1) (pc + 1) (with_slot r.index (m + 1) slots) c1 e
        (record { apart = may.apart.1; constant = may.constant.1; typed = may.typed.1 }) has.1 at1 st1
        (subst (λ u. CountsFrom (number I64 u) a (s.varying i)) (sym same) counts) outers1)
        (last_other (q ∷ rs) i r.index e may.apart.0) may has at st outers
