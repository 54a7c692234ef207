-- Lanes that are off may become anything after a free write, and a useless instruction may be left out.
use Rattle.std.proofs.Common.{◌≡◌, ℕ, zero, suc, ◌+◌, ◌<◌, [], ◌∷◌, Some, None, Ok, true, false, not, ◌⊎◌, inl, inr, refl, sym, ap, ◌∙◌, subst, arith, Contains, eq-eqb}
use Rattle.std.proofs.lemmas.Bool.{and_parts, or_cases, not-true, cases_eq}
use Rattle.std.specs.Prelude.{slice_index_or, if◌then◌else◌, nat_eq}
use Rattle.std.specs.List.{list_any, list_all}
use Rattle.isp_base.specs.Maps.{Lanes, Map, over, put}
use Rattle.isp_code.specs.Conf.{Conf, Go}
use Rattle.isp_code.specs.Lines.{act, next, moved, set_vector, vector_value}
use Rattle.isp_code.specs.Listing.{Listing, Routine}
use Rattle.isp_code.specs.declared.instr.Instr.{Instr}
use Rattle.isp_code.specs.declared.instr.Instr.TheVariants as instr
use Rattle.isp_lanes_read.specs.Lanes.{sets, IsRead}
use Rattle.isp_lanes_read.specs.Free.{stays_in, is_free_write, is_free, is_of, is_unread, is_useless, is_call}
use Rattle.isp_lanes_read.specs.Laws.{FreeWrites}
use Rattle.isp_lanes_read.specs.Reads.{written, is_pure}
use Rattle.isp_lanes_read.specs.Rows.{Rows, row_at}
use Rattle.isp_lanes_read.specs.Standing.{Holds, Alike}
use Rattle.isp_lanes_read.specs.declared.table.LaneSet.{LaneSet}
use Rattle.isp_lanes_read.specs.declared.table.Reading.{Reading}
use Rattle.isp_lanes_read.specs.reader.Known.{implied}
use Rattle.isp_lanes_read.specs.reader.Passing.{edges, mask_written}
use Rattle.isp_lanes_read.proofs.Lists.{all_has, none_has, put_same, put_other}
use Rattle.isp_lanes_read.proofs.Knowing.{in_row_so, implied_so}
use Rattle.isp_lanes_read.proofs.Follows.{Changes}
use Rattle.isp_lanes_read.proofs.Moves.{IsInner, GoesOn, MovesOn, moves_on}
use Rattle.isp_lanes_read.proofs.Readers.{pure_value}
use Rattle.isp_lanes_read.proofs.Holding.{sets_sound}
use Rattle.isp_lanes_read.proofs.Alikes.{alike_itself}

-- what writes a vector and is no call goes on to the next instruction, and writes no mask
writes_go_on : (pc : ℕ) (i : Instr) (w : Reading) → written i ≡ Some w → is_call i ≡ false → IsInner i × (edges pc i ≡ record { to = pc + 1; more = None } ∷ []) × (mask_written i ≡ None)
writes_go_on pc (instr.Vector d i) w e f = (tt, refl, refl)
writes_go_on pc (instr.Divide o d x y k q) w e f = (tt, refl, refl)
writes_go_on pc (instr.PackedLoad d a i y k q) w e f = (tt, refl, refl)
writes_go_on pc (instr.Call k) w e f = absurd cc
writes_go_on pc i w e f = absurd cc

only : {X : Type 0} (x y : X) → Contains (x ∷ []) y → y ≡ x
only x y h = at h.0 h.1 h.2
  where
    at : (k : ℕ) → k < 1 → slice_index_or (x ∷ []) k y ≡ y → y ≡ x
    at zero l e = sym e
    at (suc k) l e = absurd (omega arith)

module _ (code : Listing) (rows : Rows) (c : Conf) (holds : Holds code rows c) (h : Routine) (i : Instr) where
  free_lanes : (w : Reading) → written i ≡ Some w → is_free (row_at rows c.home.fn c.pc) (row_at rows c.home.fn (c.pc + 1)) i ≡ true
      → (p : ℕ) → IsRead (sets code c) (row_at rows c.home.fn (c.pc + 1)) w.vector p → sets code c w.lanes p ≡ true
  free_lanes w e f p r =
      elim (or_cases (not (nat_eq (r.0).vector w.vector)) (implied (row_at rows c.home.fn c.pc) None (r.0).lanes w.lanes) stays) [
        | inl n ↦ (let bad : true ≡ false = sym (eq-eqb (r.0).vector w.vector r.2) ∙ not-true (nat_eq (r.0).vector w.vector) n in absurd cc)
        | inr g ↦ implied_so (sets code c) (sets_sound code rows c holds) (row_at rows c.home.fn c.pc) holds.told None tt (r.0).lanes w.lanes g p r.3
      ]
    where
      all : list_all (stays_in (row_at rows c.home.fn c.pc) w) (row_at rows c.home.fn (c.pc + 1)).read ≡ true
      all = subst (λ o. is_free_write (row_at rows c.home.fn c.pc) (row_at rows c.home.fn (c.pc + 1)) o ≡ true) e f

      stays : stays_in (row_at rows c.home.fn c.pc) w r.0 ≡ true
      stays = all_has (stays_in (row_at rows c.home.fn c.pc) w) (row_at rows c.home.fn (c.pc + 1)).read r.0 all r.1

  -- at the next instruction, with the masks as they are, any lanes of a vector that nobody reads may change
  changed : (a : Conf) (v : ℕ) (new : Lanes) → a.home ≡ c.home → a.pc ≡ c.pc + 1 → ((x : LaneSet) → sets code a x ≡ sets code c x)
      → ((p : ℕ) → IsRead (sets code c) (row_at rows c.home.fn (c.pc + 1)) v p → a.vectors v p ≡ new p) → Alike code rows a (record a { vectors = put a.vectors v new })
  changed a v new e f g keeps = record { same = refl; lanes = λ u p r. lanes u p r (cases_eq u v); waiting = (alike_itself code rows a).waiting }
    where
      there : (u p : ℕ) → IsRead (sets code a) (row_at rows a.home.fn a.pc) u p → IsRead (sets code c) (row_at rows c.home.fn (c.pc + 1)) u p
      there u p r =
          let at : IsRead (sets code a) (row_at rows c.home.fn (c.pc + 1)) u p = subst (λ n. IsRead (sets code a) (row_at rows c.home.fn n) u p) f (subst (λ m. IsRead (sets code a) (row_at rows m.fn a.pc) u p) e r) in
          (at.0, at.1, at.2, subst (λ m. m p ≡ true) (g (at.0).lanes) at.3)

      lanes : (u p : ℕ) → IsRead (sets code a) (row_at rows a.home.fn a.pc) u p → (u ≡ v) ⊎ (u ≡ v → ⊥) → a.vectors u p ≡ put a.vectors v new u p
      lanes u p r (inl s) =
          ap (λ z. a.vectors z p) s ∙ keeps p (there v p (subst (λ z. IsRead (sets code a) (row_at rows a.home.fn a.pc) z p) s r)) ∙ sym (ap (λ l. l p) (ap (put a.vectors v new) s ∙ put_same a.vectors v new))
      lanes u p r (inr ne) = sym (ap (λ l. l p) (put_other a.vectors v new u ne))

  forgotten : (w : Reading) → written i ≡ Some w → is_call i ≡ false → is_free (row_at rows c.home.fn c.pc) (row_at rows c.home.fn (c.pc + 1)) i ≡ true
      → (a : Conf) → act code h c i ≡ Go a → (old : Lanes) → Alike code rows a (record a { vectors = put a.vectors w.vector (λ p. if sets code c w.lanes p then a.vectors w.vector p else old p) })
  forgotten w e f free a goes old =
      changed a w.vector (λ p. if sets code c w.lanes p then a.vectors w.vector p else old p) on.home_is (on.pc_is ∙ ap (λ z. z.to) (only (record { to = c.pc + 1; more = None }) on.edge (subst (λ es. Contains es on.edge) way.1 on.has)))
      (subst (Changes (sets code c) (sets code a)) way.2 on.changes)
      (λ p r. sym (ap (λ b. if b then a.vectors w.vector p else old p) (free_lanes w e free p r)))
    where
      way : IsInner i × (edges c.pc i ≡ record { to = c.pc + 1; more = None } ∷ []) × (mask_written i ≡ None)
      way = writes_go_on c.pc i w e f

      on : GoesOn code h c i a
      on = subst (MovesOn code h c i) goes (moves_on code h c holds.inside i (writes_go_on c.pc i w e f).0)

skipped : (code : Listing) (rows : Rows) (c : Conf) → Holds code rows c → (h : Routine) (i : Instr) → is_useless (row_at rows c.home.fn (c.pc + 1)) i ≡ true → (a : Conf) → act code h c i ≡ Go a → Alike code rows a (next c)
skipped code rows c holds h (instr.Vector d i) e a goes =
    subst (λ z. Alike code rows z (next c)) is
    (record { same = refl; lanes = λ v p r. lanes v p r (cases_eq v d.number); waiting = (alike_itself code rows c).waiting })
  where
    parts : (is_pure i ≡ true) × (is_unread (row_at rows c.home.fn (c.pc + 1)) d.number ≡ true)
    parts = and_parts (is_pure i) (is_unread (row_at rows c.home.fn (c.pc + 1)) d.number) e

    value : (x : Map) × (vector_value code h c d i ≡ Ok x)
    value = pure_value code h c d i parts.0

    is : set_vector c d value.0 ≡ a
    is = let same : Go (set_vector c d value.0) ≡ Go a = sym (ap (λ z. moved z (set_vector c d)) value.1) ∙ goes in cc

    lanes : (v p : ℕ) → IsRead (sets code c) (row_at rows c.home.fn (c.pc + 1)) v p → (v ≡ d.number) ⊎ (v ≡ d.number → ⊥) → put c.vectors d.number (over value.0 (c.vectors d.number)) v p ≡ c.vectors v p
    lanes v p r (inl s) =
        absurd (none_has (is_of d.number) (row_at rows c.home.fn (c.pc + 1)).read r.0 (not-true (list_any (is_of d.number) (row_at rows c.home.fn (c.pc + 1)).read) parts.1) r.1 (eq-eqb (r.0).vector d.number (r.2 ∙ s)))
    lanes v p r (inr ne) = ap (λ l. l p) (put_other c.vectors d.number (over value.0 (c.vectors d.number)) v ne)
skipped code rows c holds h i e a goes = absurd cc

pub free_writes : (code : Listing) (rows : Rows) → FreeWrites code rows
free_writes code rows c holds h found i at = record { within = in_row_so (sets code c) (sets_sound code rows c holds) (row_at rows c.home.fn c.pc) holds.told; free = free_lanes code rows c holds h i; forgets = forgotten code rows c holds h i; skips = skipped code rows c holds h i }
