-- Rows by their numbers, and one written anew.
use Rattle.std.proofs.Common.{◌≡◌, refl, sym, subst, ap, ap₂, ◌∙◌, ℕ, zero, suc, ◌<◌, ◌≤◌, List, [], ◌∷◌, length, take, drop, ◌++◌, get_or, arith, ⊎_elim, ◌≢◌, eq-eqb, ne_eqb}
use Rattle.std.specs.Prelude.{slice_set, if◌then◌else◌}
use Rattle.std.proofs.Math.Path.{fun_ext}
use Rattle.std.proofs.Math.Seq.{take-append_seam}
use Rattle.std.proofs.Math.ListN.{length-set}
use Rattle.std.proofs.lemmas.Bool.{cases_eq}
use Rattle.std.proofs.lemmas.List.{get_or-set_other, get_or-set_same}
use Rattle.isp_base.specs.declared.types.Elem.{Elem}
use Rattle.isp_base.specs.Rows.{Row}
use Rattle.isp_base.specs.Maps.{Lanes, put, lane_of}
use Rattle.isp_base.specs.Arguments.{row_bits}
use Rattle.isp_store.specs.Held.{Held, Shape, shape_of, shapes_of, type_of, bits_of}

abbrev shape : Elem → ℕ → Shape
shape t n = record { elem = t; count = n }

pub row_bits_at : (rs : List Row) (b : ℕ) (d : Row) → b < length rs → row_bits rs b ≡ (get_or rs b d).bits
row_bits_at [] b d h = absurd (omega arith)
row_bits_at (r ∷ rs) zero d h = refl
row_bits_at (r ∷ rs) (suc b) d h = row_bits_at rs b d (omega arith)

pub row_bits_past : (rs : List Row) (b : ℕ) → length rs ≤ b → row_bits rs b ≡ []
row_bits_past [] b h = refl
row_bits_past (r ∷ rs) zero h = absurd (omega arith)
row_bits_past (r ∷ rs) (suc b) h = row_bits_past rs b (omega arith)

-- a store with an element is there
pub row_there : (rs : List Row) (b i : ℕ) → i < length (row_bits rs b) → b < length rs
row_there [] b i h = absurd (omega arith)
row_there (r ∷ rs) zero i h = omega arith
row_there (r ∷ rs) (suc b) i h = let t = row_there rs b i h in omega arith

pub type_of_at : (rs : List Row) (b : ℕ) (d : Row) → b < length rs → type_of rs b ≡ (get_or rs b d).elem
type_of_at [] b d h = absurd (omega arith)
type_of_at (r ∷ rs) zero d h = refl
type_of_at (r ∷ rs) (suc b) d h = type_of_at rs b d (omega arith)

-- a place written in a list
pub lanes_put : (xs : List ℕ) (i v : ℕ) → i < length xs → lane_of (slice_set xs i v) ≡ put (lane_of xs) i v
lanes_put xs i v h = fun_ext (λ r. ⊎_elim (λ (e : r ≡ i). same r e) (λ ne. other r ne) (cases_eq r i))
  where
    same : (r : ℕ) → r ≡ i → lane_of (slice_set xs i v) r ≡ put (lane_of xs) i v r
    same r e = ap (lane_of (slice_set xs i v)) e ∙ get_or-set_same xs i v 0 h ∙ ap (λ b. if b then v else lane_of xs r) (sym (eq-eqb r i e))

    other : (r : ℕ) → r ≢ i → lane_of (slice_set xs i v) r ≡ put (lane_of xs) i v r
    other r ne = get_or-set_other xs i r v 0 ne ∙ ap (λ b. if b then v else lane_of xs r) (sym (ne_eqb r i ne))

row_bits_same : (rs : List Row) (b : ℕ) (row : Row) → b < length rs → row_bits (slice_set rs b row) b ≡ row.bits
row_bits_same [] b row h = absurd (omega arith)
row_bits_same (q ∷ rs) zero row h = refl
row_bits_same (q ∷ rs) (suc b) row h = row_bits_same rs b row (omega arith)

row_bits_other : (rs : List Row) (b : ℕ) (row : Row) (r : ℕ) → r ≢ b → row_bits (slice_set rs b row) r ≡ row_bits rs r
row_bits_other [] b row r ne = refl
row_bits_other (q ∷ rs) zero row zero ne = absurd (ne refl)
row_bits_other (q ∷ rs) zero row (suc r) ne = refl
row_bits_other (q ∷ rs) (suc b) row zero ne = refl
row_bits_other (q ∷ rs) (suc b) row (suc r) ne = row_bits_other rs b row r (λ e. ne (ap suc e))

-- a row written in a list of rows
pub rows_put : (rs : List Row) (b : ℕ) (row : Row) → b < length rs → bits_of (slice_set rs b row) ≡ put (bits_of rs) b (lane_of row.bits)
rows_put rs b row h = fun_ext (λ r. ⊎_elim (λ (e : r ≡ b). same r e) (λ ne. other r ne) (cases_eq r b))
  where
    same : (r : ℕ) → r ≡ b → bits_of (slice_set rs b row) r ≡ put (bits_of rs) b (lane_of row.bits) r
    same r e = ap (bits_of (slice_set rs b row)) e ∙ ap lane_of (row_bits_same rs b row h) ∙ ap (λ t. if t then lane_of row.bits else bits_of rs r) (sym (eq-eqb r b e))

    other : (r : ℕ) → r ≢ b → bits_of (slice_set rs b row) r ≡ put (bits_of rs) b (lane_of row.bits) r
    other r ne = ap lane_of (row_bits_other rs b row r ne) ∙ ap (λ t. if t then lane_of row.bits else bits_of rs r) (sym (ne_eqb r b ne))

pub shapes_put : (rs : List Row) (b : ℕ) (d row : Row) → b < length rs → shape_of row ≡ shape_of (get_or rs b d) → shapes_of (slice_set rs b row) ≡ shapes_of rs
shapes_put [] b d row h e = absurd (omega arith)
shapes_put (q ∷ rs) zero d row h e = ap (λ s. s ∷ shapes_of rs) e
shapes_put (q ∷ rs) (suc b) d row h e = ap (λ ss. shape_of q ∷ ss) (shapes_put rs b d row (omega arith) e)

-- an element written in a row
module _ (rs : List Row) (b i v : ℕ) (d new : Row) (is : new ≡ record { elem = (get_or rs b d).elem; bits = slice_set (get_or rs b d).bits i v }) (there : i < length (row_bits rs b)) where
  pub element_put : bits_of (slice_set rs b new) ≡ put (bits_of rs) b (put (bits_of rs b) i v)
  element_put =
      let old = row_bits_at rs b d (row_there rs b i there) in
      let long : i < length (get_or rs b d).bits = subst (λ xs. i < length xs) old there in
      rows_put rs b new (row_there rs b i there) ∙ ap (λ (f : Lanes). put (bits_of rs) b f) (ap (λ (r : Row). lane_of r.bits) is ∙ lanes_put (get_or rs b d).bits i v long ∙ ap (λ xs. put (lane_of xs) i v) (sym old))

  pub element_shapes : shapes_of (slice_set rs b new) ≡ shapes_of rs
  element_shapes =
      let old = get_or rs b d in
      shapes_put rs b d new (row_there rs b i there) (ap shape_of is ∙ ap (λ n. record { elem = old.elem; count = n }) (length-set old.bits i v))

pub row_shapes : (rs : List Row) (b : ℕ) (d new : Row) → b < length rs → new.elem ≡ (get_or rs b d).elem → length new.bits ≡ length (get_or rs b d).bits → shapes_of (slice_set rs b new) ≡ shapes_of rs
row_shapes rs b d new h e n = shapes_put rs b d new h (ap₂ (λ (t : Elem) (k : ℕ). shape t k) e n)

abbrev pub held : ℕ → List Row → Held
held n rs = record { params = n; rows = rs }

-- a Vec lent as a slice and handed back
pub handed_back : (n : ℕ) (new items : List Row) → length new ≡ n → take n (new ++ drop (length new) items) ≡ new
handed_back n new items e = ap (λ k. take k (new ++ drop (length new) items)) (sym e) ∙ take-append_seam new (drop (length new) items)
