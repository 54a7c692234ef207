-- What runs leave, one after the other, has the elements that they store, cut to the width of their types.
use Rattle.std.proofs.Common.{◌≡◌, refl, sym, ap, ap₂, ◌∙◌, ℕ, zero, suc, ◌<◌, ◌%◌, ◌^◌, List, [], ◌∷◌, Some, None, arith, length}
use Rattle.std.specs.Prelude.{Option, option_map, slice_index}
use Rattle.std.specs.List.{All}
use Rattle.std.proofs.Math.Path.{fun_ext}
use Rattle.std.proofs.Math.Nat.{mod-eq_of_lt}
use Rattle.std.proofs.lemmas.List.Elements.{All-head, All-tail}
use Rattle.isp_base.specs.Arguments.{rows_now, row_bits, tabulate}
use Rattle.isp_base.specs.Maps.{Lanes, or_old}
use Rattle.isp_base.specs.Rows.{Row, Fit}
use Rattle.isp_base.specs.Values.{width}
use Rattle.isp_solo_meaning.specs.Answers.{Answer, reached}
use Rattle.isp_type_laws.specs.Cut.{cut, rows_cut}
use Rattle.isp_type_laws.specs.Fits.{RowsFit}
use Rattle.isp_solo.specs.Left.{row_over, rows_over, rows_left, left_by}
use Rattle.isp_solo.proofs.Leaving.{listed, made, tabulate_at, tabulate_long, tabulate_same}

-- ---- what is cut, and over it what is stored

cut_either : (k : ℕ) (o : Option ℕ) (x : ℕ) → or_old (option_map (λ y. y % 2 ^ k) o) (x % 2 ^ k) ≡ or_old o x % 2 ^ k
cut_either k None x = refl
cut_either k (Some y) x = refl

abbrev cut_at : Row → Lanes → Lanes
cut_at r f i = f i % 2 ^ width r.elem

over_cut : (r : Row) (f : Lanes) (w : ℕ → Option ℕ) → row_over (cut r f) w ≡ cut r (λ e. or_old (w e) (f e))
over_cut r f w =
    ap (λ (n : ℕ). made r (tabulate n (λ e. or_old (option_map (λ x. x % 2 ^ width r.elem) (w e)) (slice_index (tabulate (length r.bits) (cut_at r f)) e)))) (tabulate_long (length r.bits) (cut_at r f))
    ∙ ap (made r) (tabulate_same (length r.bits) (λ e. or_old (option_map (λ x. x % 2 ^ width r.elem) (w e)) (slice_index (tabulate (length r.bits) (cut_at r f)) e)) (cut_at r (λ e. or_old (w e) (f e)))
    (λ i h. ap (or_old (option_map (λ x. x % 2 ^ width r.elem) (w i))) (tabulate_at (length r.bits) (cut_at r f) i h) ∙ cut_either (width r.elem) (w i) (f i)))

over_rows : (rs : List Row) (f : ℕ → Lanes) (w : ℕ → ℕ → Option ℕ) → rows_over (rows_cut rs f) w ≡ rows_cut rs (λ b e. or_old (w b e) (f b e))
over_rows [] f w = refl
over_rows (r ∷ rs) f w = ap₂ (λ (x : Row) (xs : List Row). x ∷ xs) (over_cut r (f 0) (w 0)) (over_rows rs (λ b. f (suc b)) (λ b. w (suc b)))

abbrev FitRow : Row → Type 0
FitRow r = Fit r.elem r.bits

-- what fits is not changed by cutting it
cut_row : (r : Row) → FitRow r → cut r (λ e. slice_index r.bits e) ≡ r
cut_row r fit = ap (λ (f : Lanes). made r (tabulate (length r.bits) f)) (fun_ext (λ e. mod-eq_of_lt (fit e))) ∙ ap (made r) (listed r.bits)

cut_all : (rs : List Row) → All (λ r. Fit r.elem r.bits) rs → rows_cut rs (λ b e. slice_index (row_bits rs b) e) ≡ rs
cut_all [] a = refl
cut_all (r ∷ rs) a = ap₂ (λ (x : Row) (xs : List Row). x ∷ xs) (cut_row r (All-head FitRow r rs a)) (cut_all rs (All-tail FitRow r rs a))

-- the rows that runs leave have the elements that they leave, cut to their width
pub left_is : (run : ℕ → Answer ℕ) (rs : List Row) → All (λ r. Fit r.elem r.bits) rs → (n : ℕ) → rows_left run rs n ≡ rows_cut rs (left_by run (λ b e. slice_index (row_bits rs b) e) n)
left_is run rs a zero = sym (cut_all rs a)
left_is run rs a (suc n) =
    ap (λ (z : List Row). rows_over z (reached (run n)).wrote) (left_is run rs a n) ∙ over_rows rs (left_by run (λ b e. slice_index (row_bits rs b) e) n) (reached (run n)).wrote

-- rows whose elements are those of others, which fit, are not changed by cutting them
pub cut_same : (rs : List Row) (f g : ℕ → Lanes) → rows_now rs f ≡ rows_now rs g → RowsFit rs f → rows_cut rs g ≡ rows_now rs g
cut_same [] f g e fit = refl
cut_same (r ∷ rs) f g e fit =
    ap₂ (λ (x : Row) (xs : List Row). x ∷ xs)
    (ap (made r) (tabulate_same (length r.bits) (λ i. g 0 i % 2 ^ width r.elem) (g 0) (λ i h. mod-eq_of_lt (subst_below (f 0 i) (g 0 i) (2 ^ width r.elem) (element i h) (fit.0 i)))))
    (cut_same rs (λ b. f (suc b)) (λ b. g (suc b)) (ap later e) fit.1)
  where
    later : List Row → List Row
    later [] = []
    later (x ∷ xs) = xs

    first : List Row → List ℕ
    first [] = []
    first (x ∷ xs) = x.bits

    bits_same : tabulate (length r.bits) (f 0) ≡ tabulate (length r.bits) (g 0)
    bits_same = ap first e

    element : (i : ℕ) → i < length r.bits → f 0 i ≡ g 0 i
    element i h = sym (tabulate_at (length r.bits) (f 0) i h) ∙ ap (λ (xs : List ℕ). slice_index xs i) bits_same ∙ tabulate_at (length r.bits) (g 0) i h

    subst_below : (x y k : ℕ) → x ≡ y → x < k → y < k
    subst_below x y k i h = omega (arith, i, h)
