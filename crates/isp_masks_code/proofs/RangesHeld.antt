-- The ranges of a `foreach`: what registers hold for all runs and for each range, and the indices of the ranges outside.
use Rattle.std.proofs.Common.{◌≡◌, ℕ, ◌+◌, ◌<◌, ◌≤◌, List, [], ◌∷◌, ◌++◌, length, refl, sym, ap, ap₂, ◌∙◌, subst, arith, length-append}
use Rattle.std.specs.Prelude.{ℤ, pos, ◌≤ℤ◌, ◌^◌}
use Rattle.isp_base.specs.Maps.{on}
use Rattle.isp_base.specs.Sets.{Mask}
use Rattle.isp_base.specs.Values.{number, wrap}
use Rattle.isp_base.specs.declared.types.Elem.TheVariants.{I32, I64}
use Rattle.isp_base.specs.declared.types.Rate.TheVariants.{Varying}
use Rattle.isp_code.specs.Conf.{Conf}
use Rattle.isp_code.specs.declared.instr.Instr.{Instr}
use Rattle.isp_typed.specs.Typed.{TRange}
use Rattle.isp_meaning.specs.Payloads.{Each}
use Rattle.isp_meaning.specs.Places.{written}
use Rattle.isp_meaning.specs.Rounds.{Range, Run, Round, set_indices}
use Rattle.isp_meaning.specs.State.{State}
use Rattle.isp_lower_code.specs.Runs.{Comes}
use Rattle.isp_lower_code.specs.Setting.{Setting, IsSettled, gang_of, AreAt, At, Stands, Spares, IsOther}
use Rattle.isp_lower_code.proofs.Lemmas.{are_front, are_back, comes_on, comes_none, at_to, spares_all, spares_on, set_at, set_comes, set_goes, variable_spares, written_stands}
use Rattle.isp_masks_code.specs.Ranges.{wide, narrow, lane, outer_index}
use Rattle.isp_masks_code.proofs.Sweeps.{Low, low_on, low_less, IsNotLess}

-- a run whose outer indices are set before its own
abbrev pub round_after : (Mask → State → State) → Run → Round
round_after before x = record { members = x.members; begins = λ s. set_indices x.members x.indices (before x.members s) }

-- and an index of a range outside
abbrev pub with_index : ℕ → ℤ → (Mask → State → State) → Mask → State → State
with_index i z before a s = written Varying i a (Each (on a (λ p. wrap I32 z))) (before a s)

module _ (w : Setting) where
  abbrev pub gang : ℕ
  gang = gang_of w

  -- ---- what the registers hold

  -- the bounds are int32s
  pub record RangeHeld (r : TRange) (x : Range) (e : ℕ) (c : Conf) : Type 0 where
    pub index : x.index ≡ r.index
    pub start : number I64 (c.scalars (wide w.layout e)) ≡ x.start
    pub end : number I64 (c.scalars (wide w.layout (e + 1))) ≡ x.end
    pub low : IsNotLess x.start
    pub high : x.end ≤ℤ pos (2 ^ 31)
    pub bottom : IsNotLess x.end

  abbrev pub AreHeld : List TRange → List Range → ℕ → Conf → Type 0
  AreHeld [] [] e c = Unit {0}
  AreHeld [] (x ∷ xs) e c = ⊥
  AreHeld (r ∷ rs) [] e c = ⊥
  AreHeld (r ∷ rs) (x ∷ xs) e c = RangeHeld r x e c × AreHeld rs xs (e + 1 + 1) c

  pub held_on : (rs : List TRange) (xs : List Range) (e m : ℕ) (c c1 : Conf) → e + (length rs + length rs) ≤ m → Low w m c c1 → AreHeld rs xs e c → AreHeld rs xs e c1
  held_on [] [] e m c c1 le lo h = tt
  held_on [] (x ∷ xs) e m c c1 le lo h = absurd h
  held_on (r ∷ rs) [] e m c c1 le lo h = absurd h
  held_on (r ∷ rs) (x ∷ xs) e m c c1 le lo h = (
    record {
      index = h.0.index;
      start = ap (number I64) (lo.spares.scalars_stay I64 e (omega (arith, le)))
          ∙ h.0.start;
      end = ap (number I64) (lo.spares.scalars_stay I64 (e + 1) (omega (arith, le))) ∙ h.0.end;
      low = h.0.low;
      high = h.0.high;
      bottom = h.0.bottom;
    },
    held_on rs xs (e + 1 + 1) m c c1 (omega (arith, le)) lo h.1,
  )

  -- how many lanes there are, 1, and the lanes' numbers; and how many there are, in each lane
  pub record HasMeasures (n : ℕ) (c : Conf) : Type 0 where
    pub lanes : number I64 (c.scalars (wide w.layout n)) ≡ pos gang
    pub one : number I64 (c.scalars (wide w.layout (n + 1))) ≡ pos 1
    pub numbers : (p : ℕ) → p < gang → c.vectors (lane w.layout n) p ≡ p
    pub count : (p : ℕ) → p < gang → c.vectors (lane w.layout (n + 1)) p ≡ wrap I32 (pos gang)

  pub measures_on : (n m : ℕ) (c c1 : Conf) → n + 1 < m → Low w m c c1 → HasMeasures n c → HasMeasures n c1
  measures_on n m c c1 lt lo h = record {
    lanes = ap (number I64) (lo.spares.scalars_stay I64 n (omega arith)) ∙ h.lanes;
    one = ap (number I64) (lo.spares.scalars_stay I64 (n + 1) (omega arith)) ∙ h.one;
    numbers = λ p below. ap (λ v. v p) (lo.spares.vectors_stay I32 n (omega arith)) ∙ h.numbers p below;
    count = λ p below. ap (λ v. v p) (lo.spares.vectors_stay I32 (n + 1) (omega arith)) ∙ h.count p below;
  }

  -- ---- the indices of the ranges outside are set for the lanes of a run

  pub record AreSet (set : List Instr) (before : Mask → State → State) (a : Mask) (s : State) (c : Conf) (pc : ℕ) : Type 0 where
    pub conf : Conf
    pub comes : Comes w c (length set) conf
    pub at : At w conf (pc + length set)
    pub spares : (j : ℕ) → Spares w j c conf
    pub masks : conf.masks ≡ c.masks
    pub scalars : conf.scalars ≡ c.scalars
    pub stands : Stands w (before a s) conf
    -- without one the state is as it was
    pub none : length set ≡ 0 → before a s ≡ s
    pub work : (before a s).work ≡ s.work

  abbrev pub Sets : ℕ → ℕ → Conf → List Instr → (Mask → State → State) → Type 0
  Sets h m c0 set before =
      (a : Mask) (s : State) (c : Conf) (pc : ℕ) → AreAt w.routine.code pc set → At w c pc → c.masks h ≡ a → Low w m c0 c → Stands w s c → AreSet set before a s c pc

  module _ (ready : IsSettled w) where
    pub sets_none : (h m : ℕ) (c0 : Conf) → Sets h m c0 [] (λ a s. s)
    sets_none h m c0 a s c pc has at em lo st = record { conf = c; comes = comes_none w c; at = at_to w c pc (pc + 0) at (omega arith); spares = λ j. spares_all w j c; masks = refl; scalars = refl; stands = st; none = λ e. refl; work = refl }

    pub sets_more : (h m i : ℕ) (z : ℤ) (c0 c1 : Conf) (set : List Instr) (before : Mask → State → State) → IsOther w i → Low w m c0 c1
        → c1.scalars (narrow w.layout (m + 1)) ≡ wrap I32 z → Sets h m c0 set before
        → Sets h (m + 1 + 1) c1 (set ++ outer_index w.layout i (m + 1) h ∷ []) (with_index i z before)
    sets_more h m i z c0 c1 set before other lo is f a s c pc has at em lo1 st =
        let last = outer_index w.layout i (m + 1) h ∷ [] in
        let o = f a s c pc (are_front w.routine.code pc set last has) at em (low_on w m c0 c1 c lo (low_less w m (m + 1 + 1) c1 c (omega arith) lo1)) st in
        let c2 = o.conf in
        let d = w.layout.variable Varying i in
        let v = Each (on (c2.masks h) (λ p. c2.scalars (narrow w.layout (m + 1)))) in
        let c3 = set_at Varying c2 d v in
        let em2 : c2.masks h ≡ a = ap (λ f. f h) o.masks ∙ em in
        let bits : c2.scalars (narrow w.layout (m + 1)) ≡ wrap I32 z = (o.spares (m + 1 + 1)).scalars_stay I32 (m + 1) (omega arith) ∙ lo1.spares.scalars_stay I32 (m + 1) (omega arith) ∙ is in
        let size : length (set ++ last) ≡ length set + 1 = length-append set last in
        record {
          conf = c3;
          comes = subst (λ k. Comes w c k c3) (sym size) (comes_on w c c2 c3 (length set) 1 o.comes (set_comes w ready Varying c2 d v (pc + length set) (outer_index w.layout i (m + 1) h) o.at (are_back w.routine.code pc set last has).0 refl));
          at = at_to w c3 (pc + length set + 1) (pc + length (set ++ last)) (set_goes w ready Varying c2 d v (pc + length set) o.at) (omega (arith, size));
          spares = λ j. spares_on w j c c2 c3 (o.spares j) (variable_spares w ready Varying i j c2 v tt);
          masks = o.masks;
          scalars = o.scalars;
          none = λ e. absurd (omega (arith, e, size));
          stands = written_stands w ready Varying i c2 a (Each (on a (λ p. wrap I32 z))) (before a s) v o.stands (sym (ap₂ (λ g b. Each (on g (λ p. b))) em2 bits)) (other, tt);
          work = o.work;
        }
