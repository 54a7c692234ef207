-- A list in two parts: an element that one of them has, and one that is written there.
use Rattle.std.proofs.Common.{◌≡◌, sym, ap, ◌∙◌, ℕ, ◌-◌, ◌<◌, ◌++◌, List, length, get_or, arith}
use Rattle.std.proofs.lemmas.List.{get_or_default, get_or_append_left, get_or-append_right, get_or-set_same, length-set, set-append_left, set-append_right}
use Rattle.std.specs.Prelude.{slice_set}
use Rattle.isp_base.specs.Rows.{Row}
use Rattle.isp_lanes.specs.Lanes.{vector, no_row}

no_rest : (i : ℕ) → i - i ≡ 0
no_rest i = omega arith

module _ (all xs ys : List Row) (parts : all ≡ xs ++ ys) (i : ℕ) (x : Row) where
  module _ (low : i < length xs) where
    pub left_is : vector all i ≡ get_or xs i x
    left_is = ap (λ (zs : List Row). vector zs i) parts ∙ get_or_append_left xs ys no_row i low ∙ get_or_default xs i no_row x low

    pub left_new : vector (slice_set xs i x ++ ys) i ≡ x
    left_new = get_or_append_left (slice_set xs i x) ys no_row i (omega (arith, length-set xs i x)) ∙ get_or-set_same xs i x no_row low

    pub left_set : slice_set xs i x ++ ys ≡ slice_set all i (vector (slice_set xs i x ++ ys) i)
    left_set = sym (ap (λ (zs : List Row). slice_set zs i x) parts ∙ set-append_left xs ys i x low) ∙ ap (slice_set all i) (sym left_new)

  module _ (long : length xs ≡ i) (some : 0 < length ys) where
    pub right_is : vector all i ≡ get_or ys 0 x
    right_is = ap (λ (zs : List Row). vector zs i) parts ∙ get_or-append_right xs ys i i no_row long (omega arith) ∙ ap (λ k. get_or ys k no_row) (no_rest i) ∙ get_or_default ys 0 no_row x some

    pub right_new : vector (xs ++ slice_set ys 0 x) i ≡ x
    right_new = get_or-append_right xs (slice_set ys 0 x) i i no_row long (omega arith) ∙ ap (λ k. get_or (slice_set ys 0 x) k no_row) (no_rest i) ∙ get_or-set_same ys 0 x no_row some

    pub right_set : xs ++ slice_set ys 0 x ≡ slice_set all i (vector (xs ++ slice_set ys 0 x) i)
    right_set =
        sym (ap (λ (zs : List Row). slice_set zs i x) parts ∙ set-append_right xs ys i i x long (omega arith) ∙ ap (λ k. xs ++ slice_set ys k x) (no_rest i)) ∙ ap (slice_set all i) (sym right_new)
