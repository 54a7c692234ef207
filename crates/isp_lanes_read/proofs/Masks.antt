-- What bounds a mask that is written, and what a jump tells of a mask.
use Rattle.std.proofs.Common.{◌≡◌, ℕ, zero, suc, ◌<◌, Option, Some, None, Bool, true, false, not, inl, inr, refl, sym, ◌∙◌, subst, arith, eqb-true, ltb-true}
use Rattle.std.proofs.lemmas.Bool.{and_parts, and_from, or_cases, or_left, or_right, or_parts, cases_eq}
use Rattle.std.specs.Prelude.{if◌then◌else◌}
use Rattle.isp_base.specs.Maps.{Lanes, on, where_true, holds}
use Rattle.isp_base.specs.Sets.{Mask, everyone, any, all, lowest, or_this, lone}
use Rattle.isp_base.specs.Truths.{is_true}
use Rattle.isp_base.specs.Types.{gang_width}
use Rattle.isp_code.specs.Conf.{Conf}
use Rattle.isp_code.specs.Lines.{mask_value}
use Rattle.isp_code.specs.Listing.{Listing, Routine}
use Rattle.isp_code.specs.declared.instr.MaskInstr.{MaskInstr}
use Rattle.isp_code.specs.declared.instr.MaskInstr.TheVariants as mask
use Rattle.isp_code.specs.declared.instr.MaskOp.TheVariants as mask_op
use Rattle.isp_lanes_read.specs.Lanes.{IsWithin, sets}
use Rattle.isp_lanes_read.specs.reader.Known.{upper, lower}
use Rattle.isp_lanes_read.proofs.Follows.{IsUpper, IsLower}

-- a lane where a test finds bits of a set is in it
where_on : (f : ℕ → Bool) (a : Mask) (x : Lanes) (p : ℕ) → where_true f (on a x) p ≡ true → a p ≡ true
where_on f a x p h = by (a p) h
  where
    by : (b : Bool) → holds f (if b then Some (x p) else None) ≡ true → b ≡ true
    by true g = refl
    by false g = absurd cc

lowest_is_in : (n : ℕ) (a : Mask) (q : ℕ) → lowest n a ≡ Some q → a q ≡ true
lowest_is_in zero a q e = absurd cc
lowest_is_in (suc n) a q e = by (lowest_is_in n a q) (lowest n a) refl (a n) refl e
  where
    by : (lowest n a ≡ Some q → a q ≡ true) → (o : Option ℕ) → lowest n a ≡ o → (b : Bool) → a n ≡ b → or_this o b n ≡ Some q → a q ≡ true
    by deeper (Some r) f b g h = deeper (f ∙ h)
    by deeper None f true g h = let same : n ≡ q = cc in subst (λ r. a r ≡ true) same g
    by deeper None f false g h = absurd cc

lone_in : (n : ℕ) (a : Mask) (p : ℕ) → lone (lowest n a) p ≡ true → a p ≡ true
lone_in n a p h = by (lowest n a) refl h
  where
    by : (o : Option ℕ) → lowest n a ≡ o → lone o p ≡ true → a p ≡ true
    by None e g = absurd cc
    by (Some q) e g = subst (λ r. a r ≡ true) (sym (eqb-true p q g)) (lowest_is_in n a q e)

none_of : (n : ℕ) (a : Mask) → any n a ≡ false → (p : ℕ) → p < n → a p ≡ false
none_of zero a e p l = absurd (omega arith)
none_of (suc n) a e p l =
    let parts = or_parts (any n a) (a n) e in
    elim (cases_eq p n) [ inl f ↦ subst (λ r. a r ≡ false) (sym f) parts.1 | inr ne ↦ none_of n a parts.0 p (omega (arith, ne)) ]

each_of : (n : ℕ) (a : Mask) → all n a ≡ true → (p : ℕ) → p < n → a p ≡ true
each_of zero a e p l = absurd (omega arith)
each_of (suc n) a e p l =
    let parts = and_parts (all n a) (a n) e in
    elim (cases_eq p n) [ inl f ↦ subst (λ r. a r ≡ true) (sym f) parts.1 | inr ne ↦ each_of n a parts.0 p (omega (arith, ne)) ]

-- a set without a lane of the gang has none, and one with all has each
pub empty_so : (n : ℕ) (a : Mask) → IsWithin a (everyone n) → any n a ≡ false → (p : ℕ) → a p ≡ true → ⊥
empty_so n a inside e p h = let none = none_of n a e p (ltb-true p n (inside p h)) in let f : true ≡ false = sym h ∙ none in absurd cc

pub full_so : (n : ℕ) (a : Mask) → all n a ≡ true → IsWithin (everyone n) a
full_so n a e p h = each_of n a e p (ltb-true p n h)

module _ (code : Listing) (h : Routine) (c : Conf) where
  pub above : (i : MaskInstr) → IsUpper (sets code c) (mask_value code h c i) (upper i)
  above (mask.Copy x) = λ p j. j
  above (mask.Binary mask_op.And x y) = (λ p j. (and_parts (c.masks x.number p) (c.masks y.number p) j).0, λ p j. (and_parts (c.masks x.number p) (c.masks y.number p) j).1)
  above (mask.Binary mask_op.Or x y) = λ p j. or_cases (c.masks x.number p) (c.masks y.number p) j
  above (mask.Binary mask_op.AndNot x y) = λ p j. (and_parts (c.masks x.number p) (not (c.masks y.number p)) j).0
  above mask.Full = λ p j. j
  above mask.Off = λ p j. j
  above (mask.Test x y) = λ p j. where_on is_true (c.masks y.number) (c.vectors x.number) p j
  above (mask.Lowest x) = λ p j. lone_in (gang_width code.gang) (c.masks x.number) p j
  above (mask.Range x y) = λ p j. (and_parts _ _ j).0

  pub beneath : (i : MaskInstr) → IsLower (sets code c) (mask_value code h c i) (lower i)
  beneath (mask.Copy x) = λ p j. j
  beneath (mask.Binary mask_op.And x y) = λ p j k. and_from (c.masks x.number p) (c.masks y.number p) j k
  beneath (mask.Binary mask_op.Or x y) = (λ p j. or_left (c.masks x.number p) (c.masks y.number p) j, λ p j. or_right (c.masks x.number p) (c.masks y.number p) j)
  beneath (mask.Binary mask_op.AndNot x y) = λ p j. absurd cc
  beneath mask.Full = λ p j. j
  beneath i = λ p j. absurd cc
