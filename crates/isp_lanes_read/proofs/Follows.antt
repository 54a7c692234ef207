-- Over an instruction: what was checked of the rows before and after it is so.
use Rattle.std.proofs.Common.{◌≡◌, ℕ, Option, Some, None, Bool, true, false, ◌⊎◌, inl, inr, refl, sym, ap, ◌∙◌, subst, eqb, eqb-true}
use Rattle.std.specs.List.{list_all}
use Rattle.std.proofs.lemmas.Bool.{and_parts, or_cases}
use Rattle.isp_base.specs.Sets.{Mask}
use Rattle.isp_lanes_read.specs.Lanes.{IsWithin, Meaning, IsTold, IsRead}
use Rattle.isp_lanes_read.specs.Reads.{written}
use Rattle.isp_lanes_read.specs.Rows.{Row}
use Rattle.isp_code.specs.declared.instr.Instr.{Instr}
use Rattle.isp_code.specs.declared.instr.Instr.TheVariants as instr
use Rattle.isp_code.specs.declared.instr.MaskInstr.{MaskInstr}
use Rattle.isp_lanes_read.specs.declared.bound.Bound.{Bound}
use Rattle.isp_lanes_read.specs.declared.bound.Bound.TheVariants.{One, Either, Together}
use Rattle.isp_lanes_read.specs.declared.table.Inclusion.{Inclusion}
use Rattle.isp_lanes_read.specs.declared.table.LaneSet.{LaneSet}
use Rattle.isp_lanes_read.specs.declared.table.LaneSet.TheVariants as lanes
use Rattle.isp_lanes_read.specs.declared.table.Reading.{Reading}
use Rattle.isp_lanes_read.specs.reader.Known.{same_set, set_of, upper, lower, meets, implied, covers}
use Rattle.isp_lanes_read.specs.reader.Passing.{MaskWrite, mask_written, follows_written, follows, is_rewritten, comes_written, comes_back, comes}
use Rattle.isp_lanes_read.proofs.Lists.{all_has}
use Rattle.isp_lanes_read.proofs.Knowing.{same_is, IsSound, IsSoBesides, implied_so, covered_read}

-- what bounds a set
abbrev pub IsUpper : Meaning → Mask → Bound → Type 0
IsUpper set x (One a) = IsWithin x (set a)
IsUpper set x (Either a b) = IsWithin x (set a) × IsWithin x (set b)
IsUpper set x (Together a b) = (p : ℕ) → x p ≡ true → (set a p ≡ true) ⊎ (set b p ≡ true)

abbrev pub IsLower : Meaning → Mask → Bound → Type 0
IsLower set x (One a) = IsWithin (set a) x
IsLower set x (Either a b) = IsWithin (set a) x × IsWithin (set b) x
IsLower set x (Together a b) = (p : ℕ) → set a p ≡ true → set b p ≡ true → x p ≡ true

-- the sets before and after an instruction
pub record Becomes (set set1 : Meaning) (d : LaneSet) (i : MaskInstr) : Type 0 where
  pub above : IsUpper set (set1 d) (upper i)
  pub beneath : IsLower set (set1 d) (lower i)
  pub others : (a : LaneSet) → same_set a d ≡ false → set1 a ≡ set a

abbrev pub Changes : Meaning → Meaning → Option MaskWrite → Type 0
Changes set set1 None = (a : LaneSet) → set1 a ≡ set a
Changes set set1 (Some w) = Becomes set set1 (set_of w.mask) w.value

pub upper_inside : (set : Meaning) → IsSound set → (x : Mask) (b : Bound) → IsUpper set x b → IsWithin x (set lanes.Gang)
upper_inside set sound x (One a) h p i = sound.inside a p (h p i)
upper_inside set sound x (Either a b) h p i = sound.inside a p (h.0 p i)
upper_inside set sound x (Together a b) h p i = elim (h p i) [ inl j ↦ sound.inside a p j | inr j ↦ sound.inside b p j ]

-- lanes of what is bounded from above have what those of its bounds have
meets_upper : (set : Meaning) (x : Mask) (test : LaneSet → Bool) (P : ℕ → Type 0) (b : Bound) → IsUpper set x b → meets test b ≡ true
    → ((a : LaneSet) (p : ℕ) → test a ≡ true → set a p ≡ true → P p) → (p : ℕ) → x p ≡ true → P p
meets_upper set x test P (One a) h e each p i = each a p e (h p i)
meets_upper set x test P (Either a b) h e each p i = elim (or_cases (test a) (test b) e) [ inl t ↦ each a p t (h.0 p i) | inr t ↦ each b p t (h.1 p i) ]
meets_upper set x test P (Together a b) h e each p i =
    let parts = and_parts (test a) (test b) e in
    elim (h p i) [ inl j ↦ each a p parts.0 j | inr j ↦ each b p parts.1 j ]

meets_lower : (set : Meaning) (part x : Mask) (test : LaneSet → Bool) (b : Bound) → IsLower set x b → meets test b ≡ true
    → ((a : LaneSet) → test a ≡ true → IsWithin part (set a)) → IsWithin part x
meets_lower set part x test (One a) h e each p i = h p (each a e p i)
meets_lower set part x test (Either a b) h e each p i = elim (or_cases (test a) (test b) e) [ inl t ↦ h.0 p (each a t p i) | inr t ↦ h.1 p (each b t p i) ]
meets_lower set part x test (Together a b) h e each p i =
    let parts = and_parts (test a) (test b) e in
    h p (each a parts.0 p i) (each b parts.1 p i)

-- lanes that an instruction writes
abbrev pub IsWritten : Meaning → Option Reading → ℕ → ℕ → Type 0
IsWritten set None v p = ⊥
IsWritten set (Some w) v p = (v ≡ w.vector) × (set w.lanes p ≡ true)

module _ (set set1 : Meaning) (sound : IsSound set) (row : Row) (told : IsTold set row) (more : Option Inclusion) (so : IsSoBesides set more) where
  known : (a b : LaneSet) → implied row more a b ≡ true → IsWithin (set a) (set b)
  known = implied_so set sound row told more so

  covered : (v : ℕ) (a : LaneSet) (p : ℕ) → covers row more v a ≡ true → set a p ≡ true → IsRead set row v p
  covered v a p e = covered_read set sound row told more so v a e p

  written_so : (d : LaneSet) (i : MaskInstr) (x : Inclusion) → Becomes set set1 d i → (b c : Bool) → same_set x.part d ≡ b → same_set x.whole d ≡ c
      → follows_written row more b c i x ≡ true → IsWithin (set1 x.part) (set1 x.whole)
  written_so d i x new true true e f g = subst (λ a. IsWithin (set1 x.part) (set1 a)) (same_is x.part d e ∙ sym (same_is x.whole d f)) (λ p h. h)
  written_so d i x new true false e f g =
      subst (λ a. IsWithin (set1 a) (set1 x.whole)) (sym (same_is x.part d e))
      (subst (λ m. IsWithin (set1 d) m) (sym (new.others x.whole f))
      (meets_upper set (set1 d) (λ a. implied row more a x.whole) (λ p. set x.whole p ≡ true) (upper i) new.above g (λ a p t j. known a x.whole t p j)))
  written_so d i x new false true e f g =
      subst (λ a. IsWithin (set1 x.part) (set1 a)) (sym (same_is x.whole d f))
      (subst (λ m. IsWithin m (set1 d)) (sym (new.others x.part e))
      (meets_lower set (set x.part) (set1 d) (implied row more x.part) (lower i) new.beneath g (λ a t. known x.part a t)))
  written_so d i x new false false e f g =
      subst (λ m. IsWithin m (set1 x.whole)) (sym (new.others x.part e)) (subst (λ m. IsWithin (set x.part) m) (sym (new.others x.whole f)) (known x.part x.whole g))

  follows_so : (w : Option MaskWrite) → Changes set set1 w → (x : Inclusion) → follows row more w x ≡ true → IsWithin (set1 x.part) (set1 x.whole)
  follows_so None new x e = subst (λ m. IsWithin m (set1 x.whole)) (sym (new x.part)) (subst (λ m. IsWithin (set x.part) m) (sym (new x.whole)) (known x.part x.whole e))
  follows_so (Some w) new x e = written_so (set_of w.mask) w.value x new (same_set x.part (set_of w.mask)) (same_set x.whole (set_of w.mask)) refl refl e

  pub told_after : (w : Option MaskWrite) → Changes set set1 w → (row1 : Row) → list_all (follows row more w) row1.within ≡ true → IsTold set1 row1
  told_after w new row1 e x has = follows_so w new x (all_has (follows row more w) row1.within x e has)

  back_written : (d : LaneSet) (i : MaskInstr) (r : Reading) → Becomes set set1 d i → (b : Bool) → same_set r.lanes d ≡ b → comes_written row more b i r ≡ true → (p : ℕ) → set1 r.lanes p ≡ true → IsRead set row r.vector p
  back_written d i r new true e g p h =
      meets_upper set (set1 d) (covers row more r.vector) (λ p. IsRead set row r.vector p) (upper i) new.above g (λ a p t j. covered r.vector a p t j) p
      (subst (λ a. set1 a p ≡ true) (same_is r.lanes d e) h)
  back_written d i r new false e g p h = covered r.vector r.lanes p g (subst (λ m. m p ≡ true) (new.others r.lanes e) h)

  back : (w : Option MaskWrite) → Changes set set1 w → (r : Reading) → comes_back row more w r ≡ true → (p : ℕ) → set1 r.lanes p ≡ true → IsRead set row r.vector p
  back None new r e p h = covered r.vector r.lanes p e (subst (λ m. m p ≡ true) (new r.lanes) h)
  back (Some w) new r e p h = back_written (set_of w.mask) w.value r new (same_set r.lanes (set_of w.mask)) refl e p h

  rewritten : (o : Option Reading) (r : Reading) → is_rewritten row more o r ≡ true → (p : ℕ) → set r.lanes p ≡ true → IsWritten set o r.vector p
  rewritten None r e p h = absurd cc
  rewritten (Some w) r e p h = let parts = and_parts (eqb r.vector w.vector) (implied row more r.lanes w.lanes) e in (eqb-true r.vector w.vector parts.0, known r.lanes w.lanes parts.1 p h)

  unwritten : (i : Instr) (w : MaskWrite) → mask_written i ≡ Some w → written i ≡ None
  unwritten (instr.Mask d i) w e = refl
  unwritten i w e = absurd cc

  -- what is read after an instruction was read before it, or is written
  pub read_before : (i : Instr) → Changes set set1 (mask_written i) → (row1 : Row) → list_all (comes row more i) row1.read ≡ true
      → (v p : ℕ) → IsRead set1 row1 v p → IsWritten set (written i) v p ⊎ IsRead set row v p
  read_before i new row1 e v p h = at (or_cases (is_rewritten row more (written i) r) (comes_back row more (mask_written i) r) (all_has (comes row more i) row1.read r e h.1))
    where
      r : Reading
      r = h.0

      stays : (w : Option MaskWrite) → mask_written i ≡ w → Changes set set1 w → is_rewritten row more (written i) r ≡ true → set r.lanes p ≡ true
      stays None f all w = subst (λ m. m p ≡ true) (all r.lanes) h.3
      stays (Some w) f all g = let none : is_rewritten row more (written i) r ≡ false = ap (λ o. is_rewritten row more o r) (unwritten i w f) in absurd cc

      at : (is_rewritten row more (written i) r ≡ true) ⊎ (comes_back row more (mask_written i) r ≡ true) → IsWritten set (written i) v p ⊎ IsRead set row v p
      at (inl g) = inl (subst (λ u. IsWritten set (written i) u p) h.2 (rewritten (written i) r g p (stays (mask_written i) refl new g)))
      at (inr g) = inr (subst (λ u. IsRead set row u p) h.2 (back (mask_written i) new r g p h.3))
