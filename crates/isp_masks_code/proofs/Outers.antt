-- Outer indices of a `foreach`: their values stand in the slots of their ranges while the inner ranges run.
use Rattle.std.proofs.Common.{◌≡◌, ℕ, ◌+◌, ◌<◌, ◌≤◌, List, [], ◌∷◌, Option, Some, None, Bool, true, false, refl, sym, ap, ◌∙◌, subst, arith, eqb-true, eq-eqb}
use Rattle.std.specs.Prelude.{◌≢◌, ℤ, nat_eq, if◌then◌else◌}
use Rattle.std.proofs.lemmas.Bool.{ne_eqb}
use Rattle.std.proofs.lemmas.Option.{same_Some}
use Rattle.isp_base.specs.Maps.{Lanes, on, or_old, over}
use Rattle.isp_base.specs.Sets.{Mask}
use Rattle.isp_base.specs.Values.{wrap}
use Rattle.isp_base.specs.declared.types.Elem.TheVariants.{I32}
use Rattle.isp_base.specs.declared.types.Rate.TheVariants.{Varying}
use Rattle.isp_code.specs.Conf.{Conf}
use Rattle.isp_typed.specs.Typed.{TRange}
use Rattle.isp_meaning.specs.Payloads.{Each, Payload}
use Rattle.isp_meaning.specs.Places.{written}
use Rattle.isp_meaning.specs.State.{State}
use Rattle.isp_lower_code.specs.Indices.{EachIndex}
use Rattle.isp_lower_code.specs.Setting.{Setting}
use Rattle.isp_lower_code.proofs.Lemmas.{put_same, put_other}
use Rattle.isp_masks_code.specs.Ranges.{narrow}
use Rattle.isp_masks_code.proofs.Bodies.{IsInSlot, OutersAre}
use Rattle.isp_masks_code.proofs.RangesHeld.{with_index}
use Rattle.isp_masks_code.proofs.Sweeps.{Low}

-- ---- in which slots

abbrev pub no_slots : ℕ → Option ℕ
no_slots v = None

abbrev pub with_slot : ℕ → ℕ → (ℕ → Option ℕ) → ℕ → Option ℕ
with_slot i j slots v = if nat_eq v i then Some j else slots v

-- of the ranges from one on, whose places begin at slot m
abbrev pub outer_slots : List TRange → ℕ → (ℕ → Option ℕ) → ℕ → Option ℕ
outer_slots [] m slots = slots
outer_slots (r ∷ []) m slots = slots
outer_slots (r ∷ q ∷ rs) m slots = outer_slots (q ∷ rs) (m + 1 + 1) (with_slot r.index (m + 1) slots)

-- they are below slot m
abbrev pub AreBelow : (ℕ → Option ℕ) → ℕ → Type 0
AreBelow slots m = (v j : ℕ) → slots v ≡ Some j → j < m

pub none_below : (m : ℕ) → AreBelow no_slots m
none_below m v j e = absurd (cc)

pub one_below : (i m : ℕ) (slots : ℕ → Option ℕ) → AreBelow slots m → AreBelow (with_slot i (m + 1) slots) (m + 1 + 1)
one_below i m slots below v j e = go (nat_eq v i) e
  where
    go : (b : Bool) → (if b then Some (m + 1) else slots v) ≡ Some j → j < m + 1 + 1
    go true e1 = let same : m + 1 ≡ j = same_Some (m + 1) j e1 in omega (arith, same)
    go false e1 = let lt = below v j e1 in omega (arith, lt)

-- a variable that is no index has none of these
pub other_slot : (rs : List TRange) (m v : ℕ) (slots : ℕ → Option ℕ) → EachIndex (λ i. v ≢ i) rs → outer_slots rs m slots v ≡ slots v
other_slot [] m v slots ne = refl
other_slot (r ∷ []) m v slots ne = refl
other_slot (r ∷ q ∷ rs) m v slots ne =
    other_slot (q ∷ rs) (m + 1 + 1) v (with_slot r.index (m + 1) slots) ne.1 ∙ ap (λ b. if b then Some (m + 1) else slots v) (ne_eqb v r.index ne.0)

-- ---- what is there

module _ (w : Setting) where
  slot_on : (o : Option ℕ) (m : ℕ) (a : Mask) (x : Lanes) (c c1 : Conf) → ((j : ℕ) → o ≡ Some j → j < m) → Low w m c c1 → IsInSlot w o a x c → IsInSlot w o a x c1
  slot_on None m a x c c1 below lo f = tt
  slot_on (Some j) m a x c c1 below lo f = λ p on_p. f p on_p ∙ sym (lo.spares.scalars_stay I32 j (below j refl))

  pub outers_on : (slots : ℕ → Option ℕ) (i m : ℕ) (a : Mask) (s : State) (c c1 : Conf) → AreBelow slots m → Low w m c c1 → OutersAre w slots i a s c → OutersAre w slots i a s c1
  outers_on slots i m a s c c1 below lo f v ne = slot_on (slots v) m a (s.varying v) c c1 (below v) lo (f v ne)

  -- the one variable is written
  pub outers_written : (slots : ℕ → Option ℕ) (i j : ℕ) (a b : Mask) (y : Payload) (s : State) (c : Conf) → j ≡ i → OutersAre w slots i a s c → OutersAre w slots i a (written Varying j b y s) c
  outers_written slots i j a b y s c e f v ne =
      let other : v ≢ j = λ same. ne (same ∙ e) in
      subst (λ x. IsInSlot w (slots v) a x c) (sym (put_other s.varying j _ v other)) (f v ne)

  -- one more index
  pub outers_more : (slots : ℕ → Option ℕ) (i k m : ℕ) (z : ℤ) (before : Mask → State → State) (c c1 : Conf) → AreBelow slots m → Low w m c c1
      → c1.scalars (narrow w.layout (m + 1)) ≡ wrap I32 z → ((a : Mask) (s : State) → OutersAre w slots i a (before a s) c)
      → (a : Mask) (s : State) → OutersAre w (with_slot k (m + 1) slots) i a (with_index k z before a s) c1
  outers_more slots i k m z before c c1 below lo bits told a s v ne = go (nat_eq v k) refl
    where
      old : Lanes
      old = (before a s).varying k

      new : Lanes
      new = over (on a (λ p. wrap I32 z)) old

      after : Lanes
      after = (with_index k z before a s).varying v

      go : (b : Bool) → nat_eq v k ≡ b → IsInSlot w (if nat_eq v k then Some (m + 1) else slots v) a after c1
      go true e =
          let same : v ≡ k = eqb-true v k e in
          subst (λ b. IsInSlot w (if b then Some (m + 1) else slots v) a after c1) (sym e)
          (λ p on_p. ap (λ u. (with_index k z before a s).varying u p) same ∙ ap (λ f. f p) (put_same (before a s).varying k new)
          ∙ ap (λ b. or_old (if b then Some (wrap I32 z) else None) (old p)) on_p ∙ sym bits)
      go false e =
          let other : v ≢ k = λ same. no e (eq-eqb v k same) in
          subst (λ b. IsInSlot w (if b then Some (m + 1) else slots v) a after c1) (sym e)
          (subst (λ x. IsInSlot w (slots v) a x c1) (sym (put_other (before a s).varying k new v other)) (slot_on (slots v) m a ((before a s).varying v) c c1 (below v) lo (told a s v ne)))
        where
          no : nat_eq v k ≡ false → nat_eq v k ≡ true → ⊥
          no f t = let h : true ≡ false = sym t ∙ f in cc
