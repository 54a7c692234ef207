-- A vector of a list, written under a mask.
use Rattle.std.proofs.Common.{◌≡◌, refl, sym, ap, ◌∙◌, subst, arith, ℕ, ◌<◌, ◌%◌, ◌^◌, List, Bool, length, get_or, map}
use Rattle.std.proofs.lemmas.List.{get_or_default}
use Rattle.std.specs.Simd.Lanes.{sel_l}
use Rattle.isp_base.specs.Rows.{Row, Fit}
use Rattle.isp_base.specs.declared.types.Elem.{Elem}
use Rattle.isp_base.specs.Cells.{cell_width}
use Rattle.isp_lanes.specs.Held.{IsRow}
use Rattle.isp_lanes.proofs.CellWords.{w_room}
use Rattle.isp_lanes.proofs.Fits.{settled, fits_as}
use Rattle.isp_lanes.proofs.Truths.{all_low}

-- what is read at a place does not depend on what would be read past the end
pub elem_at : (rs : List Row) (k : ℕ) (a b : Row) → k < length rs → (get_or rs k a).elem ≡ (get_or rs k b).elem
elem_at rs k a b low = ap (λ (r : Row). r.elem) (get_or_default rs k a b low)

-- words for a vector of a list, by the element type of another name of it
pub row_as : (n w : ℕ) {t e : Elem} {us zs : List ℕ} → e ≡ t → us ≡ zs → w ≡ cell_width t → length zs ≡ n → Fit e zs → IsRow n w t us
row_as n w {t = t} {us = us} same is wide long fits = record { wide = wide; long = ap length is ∙ long; fits = subst (λ (v : Elem). Fit v us) same (fits_as refl is fits) }

-- the lanes of a mask have new words that fit, the others their old ones
pub row_under : (n w : ℕ) (t e : Elem) (ms : List Bool) (us vs zs : List ℕ) → e ≡ t → zs ≡ sel_l ms us vs → length ms ≡ n → length us ≡ n → Fit e us → IsRow n w e vs → IsRow n w t zs
row_under n w t e ms us vs zs same now few long fits old =
    let all = settled n e ms us vs zs now few long old.long fits old.fits in
    subst (λ (v : Elem). IsRow n w v zs) same (record { wide = old.wide; long = all.0; fits = all.1 })

-- bits that fit have no word cut
pub words_whole : (w : ℕ) (t : Elem) → w ≡ cell_width t → (xs : List ℕ) → Fit t xs → map (λ a. a % 2 ^ w) xs ≡ xs
words_whole w t e xs fits = sym (all_low w xs (λ k. omega (arith, w_room w t e, fits k)))
