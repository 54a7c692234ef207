-- The indices of a `foreach`: what holds of each holds of one, and those that are known are indices.
use Rattle.std.proofs.Common.{◌≡◌, ℕ, List, [], ◌∷◌, Some, Bool, true, false, refl, sym, subst, eqb-true}
use Rattle.std.specs.Prelude.{nat_eq, ◌||◌, if◌then◌else◌}
use Rattle.isp_typed.specs.Typed.{TRange}
use Rattle.isp_steady.specs.Indices.{indices_of, known_indices}
use Rattle.isp_steady.specs.Known.{Linear, Steady, Unknown, is_known}
use Rattle.isp_lower_code.specs.Indices.{EachIndex}
use Rattle.isp_masks_code.specs.Free.{is_index, last_index_of}

pub each_index : (P : ℕ → Type 0) (rs : List TRange) (v : ℕ) → EachIndex P rs → is_index rs v ≡ true → P v
each_index P [] v f e = absurd (cc)
each_index P (r ∷ rs) v f e = by (nat_eq v r.index) refl e (each_index P rs v f.1)
  where
    by : (b : Bool) → nat_eq v r.index ≡ b → (b || is_index rs v) ≡ true → (is_index rs v ≡ true → P v) → P v
    by true same h later = subst P (sym (eqb-true v r.index same)) f.0
    by false other h later = later h

pub each_last : (P : ℕ → Type 0) (rs : List TRange) (i : ℕ) → EachIndex P rs → last_index_of rs ≡ Some i → P i
each_last P [] i f e = absurd (cc)
each_last P (r ∷ []) i f e = let same : r.index ≡ i = cc in subst P same f.0
each_last P (r ∷ q ∷ rs) i f e = each_last P (q ∷ rs) i f.1 e

pub known_index : (rs : List TRange) (v : ℕ) → is_known (known_indices (indices_of rs) v) ≡ true → is_index rs v ≡ true
known_index [] v e = absurd (cc)
known_index (r ∷ []) v e = by (nat_eq v r.index) e
  where
    by : (b : Bool) → is_known (if b then Linear else Unknown) ≡ true → (b || false) ≡ true
    by true h = refl
    by false h = absurd (cc)
known_index (r ∷ q ∷ rs) v e = by (nat_eq v r.index) e (known_index (q ∷ rs) v)
  where
    by : (b : Bool) → is_known (if b then Steady else known_indices (indices_of (q ∷ rs)) v) ≡ true
        → (is_known (known_indices (indices_of (q ∷ rs)) v) ≡ true → is_index (q ∷ rs) v ≡ true) → (b || is_index (q ∷ rs) v) ≡ true
    by true h later = refl
    by false h later = later h
