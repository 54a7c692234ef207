-- What follows from a row by one step is so.
use Rattle.std.proofs.Common.{◌≡◌, ℕ, Option, Some, None, true, ◌||◌, ◌⊎◌, inl, inr, refl, sym, ap, subst, eqb, eqb-true, eq-eqb}
use Rattle.std.specs.List.{list_any}
use Rattle.std.proofs.lemmas.Bool.{and_parts, or_cases}
use Rattle.isp_base.specs.Sets.{Mask, everyone}
use Rattle.isp_lanes_read.specs.Lanes.{IsWithin, Meaning, IsTold, IsRead, meaning}
use Rattle.isp_lanes_read.specs.Rows.{Row}
use Rattle.isp_lanes_read.specs.declared.table.Inclusion.{Inclusion}
use Rattle.isp_lanes_read.specs.declared.table.LaneSet.{LaneSet}
use Rattle.isp_lanes_read.specs.declared.table.LaneSet.TheVariants as lanes
use Rattle.isp_lanes_read.specs.reader.Known.{same_set, is_plain, is_inclusion, is_listed, in_row, through, implied, is_reading, covers}
use Rattle.isp_lanes_read.proofs.Lists.{any_has}

pub same_is : (a b : LaneSet) → same_set a b ≡ true → a ≡ b
same_is (lanes.Mask k) (lanes.Mask j) e = ap lanes.Mask (eqb-true k j e)
same_is lanes.Gang lanes.Gang e = refl
same_is lanes.Call lanes.Call e = refl
same_is lanes.Nobody lanes.Nobody e = refl
same_is a b e = absurd cc

pub set_itself : (a : LaneSet) → same_set a a ≡ true
set_itself (lanes.Mask k) = eq-eqb k k refl
set_itself lanes.Gang = refl
set_itself lanes.Call = refl
set_itself lanes.Nobody = refl

pub within_trans : (a b c : Mask) → IsWithin a b → IsWithin b c → IsWithin a c
within_trans a b c f g p h = g p (f p h)

-- each set lies in the gang, and the empty one has no lane
pub record IsSound (set : Meaning) : Type 0 where
  pub inside : (a : LaneSet) → IsWithin (set a) (set lanes.Gang)
  pub empty : (p : ℕ) → set lanes.Nobody p ≡ true → ⊥

pub meaning_sound : (n : ℕ) (masks : ℕ → Mask) (call : Mask) → ((k : ℕ) → IsWithin (masks k) (everyone n)) → IsWithin call (everyone n) → IsSound (meaning n masks call)
meaning_sound n masks call each outer = record { inside = inside_of; empty = λ p h. absurd cc }
  where
    inside_of : (a : LaneSet) → IsWithin (meaning n masks call a) (everyone n)
    inside_of (lanes.Mask k) = each k
    inside_of lanes.Gang = λ p h. h
    inside_of lanes.Call = outer
    inside_of lanes.Nobody = λ p h. absurd cc

-- an inclusion that a jump tells
abbrev pub IsSoBesides : Meaning → Option Inclusion → Type 0
IsSoBesides set None = Unit {0}
IsSoBesides set (Some x) = IsWithin (set x.part) (set x.whole)

module _ (set : Meaning) (sound : IsSound set) where
  pub from_empty : (b : Mask) → IsWithin (set lanes.Nobody) b
  from_empty b p h = absurd (sound.empty p h)

  plain_so : (a b : LaneSet) → is_plain a b ≡ true → IsWithin (set a) (set b)
  plain_so a b e = elim (or_cases (same_set a b) (same_set b lanes.Gang || same_set a lanes.Nobody) e) [ inl h ↦ same h | inr h ↦ ends (or_cases (same_set b lanes.Gang) (same_set a lanes.Nobody) h) ]
    where
      same : same_set a b ≡ true → IsWithin (set a) (set b)
      same h = subst (λ x. IsWithin (set a) (set x)) (same_is a b h) (λ p i. i)

      ends : (same_set b lanes.Gang ≡ true) ⊎ (same_set a lanes.Nobody ≡ true) → IsWithin (set a) (set b)
      ends (inl h) = subst (λ x. IsWithin (set a) (set x)) (sym (same_is b lanes.Gang h)) (sound.inside a)
      ends (inr h) = subst (λ x. IsWithin (set x) (set b)) (sym (same_is a lanes.Nobody h)) (from_empty (set b))

  pub plain_is_so : (a b : LaneSet) → is_plain a b ≡ true → IsWithin (set a) (set b)
  plain_is_so = plain_so

  module _ (row : Row) (told : IsTold set row) where
    listed_so : (a b : LaneSet) → is_listed row a b ≡ true → IsWithin (set a) (set b)
    listed_so a b e =
        let found = any_has (is_inclusion a b) row.within e in
        let x = found.0 in
        let parts = and_parts (same_set x.part a) (same_set x.whole b) found.2 in
        subst (λ y. IsWithin (set y) (set b)) (same_is x.part a parts.0) (subst (λ y. IsWithin (set x.part) (set y)) (same_is x.whole b parts.1) (told x found.1))

    pub in_row_so : (a b : LaneSet) → in_row row a b ≡ true → IsWithin (set a) (set b)
    in_row_so a b e = elim (or_cases (is_plain a b) (is_listed row a b || (is_listed row a lanes.Nobody || is_listed row lanes.Gang b)) e) [ inl h ↦ plain_so a b h | inr h ↦ listed (or_cases (is_listed row a b) (is_listed row a lanes.Nobody || is_listed row lanes.Gang b) h) ]
      where
        ends : (is_listed row a lanes.Nobody ≡ true) ⊎ (is_listed row lanes.Gang b ≡ true) → IsWithin (set a) (set b)
        ends (inl h) = within_trans (set a) (set lanes.Nobody) (set b) (listed_so a lanes.Nobody h) (from_empty (set b))
        ends (inr h) = within_trans (set a) (set lanes.Gang) (set b) (sound.inside a) (listed_so lanes.Gang b h)

        listed : (is_listed row a b ≡ true) ⊎ ((is_listed row a lanes.Nobody || is_listed row lanes.Gang b) ≡ true) → IsWithin (set a) (set b)
        listed (inl h) = listed_so a b h
        listed (inr h) = ends (or_cases (is_listed row a lanes.Nobody) (is_listed row lanes.Gang b) h)

    through_so : (more : Option Inclusion) → IsSoBesides set more → (a b : LaneSet) → through row more a b ≡ true → IsWithin (set a) (set b)
    through_so None so a b e = absurd cc
    through_so (Some x) so a b e =
        let parts = and_parts (in_row row a x.part) (in_row row x.whole b) e in
        within_trans (set a) (set x.part) (set b) (in_row_so a x.part parts.0) (within_trans (set x.part) (set x.whole) (set b) so (in_row_so x.whole b parts.1))

    module _ (more : Option Inclusion) (so : IsSoBesides set more) where
      pub implied_so : (a b : LaneSet) → implied row more a b ≡ true → IsWithin (set a) (set b)
      implied_so a b e = elim (or_cases (in_row row a b) (through row more a b) e) [ inl h ↦ in_row_so a b h | inr h ↦ through_so more so a b h ]

      -- a lane of what is covered is read
      pub covered_read : (v : ℕ) (a : LaneSet) → covers row more v a ≡ true → (p : ℕ) → set a p ≡ true → IsRead set row v p
      covered_read v a e p h = elim (or_cases (implied row more a lanes.Nobody) (list_any (is_reading row more v a) row.read) e) [ inl i ↦ absurd (sound.empty p (implied_so a lanes.Nobody i p h)) | inr i ↦ found i ]
        where
          found : list_any (is_reading row more v a) row.read ≡ true → IsRead set row v p
          found i =
              let at = any_has (is_reading row more v a) row.read i in
              let r = at.0 in
              let parts = and_parts (eqb r.vector v) (implied row more a r.lanes) at.2 in
              (r, at.1, eqb-true r.vector v parts.0, implied_so a r.lanes parts.1 p h)
