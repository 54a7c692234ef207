-- Arguments one by one, up to an array among them.
use Rattle.std.proofs.Common.{◌≡◌, refl, sym, ap, ◌∙◌, ℕ, zero, suc, ◌+◌, ◌-◌, ◌<◌, ◌≤◌, List, [], ◌∷◌, Some, None, arith, length, get_or, drop}
use Rattle.std.proofs.Math.Seq.{drop-cons}
use Rattle.isp_base.specs.Rows.{Row}
use Rattle.isp_base.specs.declared.signature.Argument.{Argument}
use Rattle.isp_base.specs.declared.signature.Argument.TheVariants.{Value as AValue, Array as AnArray}
use Rattle.isp_solo.specs.Places.{array_place, passed}

pub passed_array : (r : Row) (b : ℕ) → (b ≡ 0 → ⊥) → Some (b - 1) ≡ passed (AnArray r) b
passed_array r zero ne = absurd (ne refl)
passed_array r (suc b) ne = ap (λ (k : ℕ). Some k) (let i : suc b - 1 ≡ b = omega arith in i)

pub passed_first : (r : Row) (b : ℕ) → b ≡ 0 → None ≡ passed (AnArray r) b
passed_first r b e = ap (passed (AnArray r)) (sym e)

found_first : (x : Argument) (ys : List Argument) (b : ℕ) → passed x b ≡ None → array_place (x ∷ ys) b ≡ 0
found_first (AValue v) ys b e = absurd (let no : ⊥ = cc in no)
found_first (AnArray r) ys zero e = refl
found_first (AnArray r) ys (suc b) e = absurd (let no : ⊥ = cc in no)

found_later : (x : Argument) (ys : List Argument) (b c : ℕ) → passed x b ≡ Some c → array_place (x ∷ ys) b ≡ suc (array_place ys c)
found_later (AValue v) ys b c e = ap (λ (k : ℕ). suc (array_place ys k)) (let i : b ≡ c = cc in i)
found_later (AnArray r) ys zero c e = absurd (let no : ⊥ = cc in no)
found_later (AnArray r) ys (suc b) c e = ap (λ (k : ℕ). suc (array_place ys k)) (let i : b ≡ c = cc in i)

module _ (xs : List Argument) (k b total : ℕ) (is : k + array_place (drop k xs) b ≡ total) where
  module _ (x : Argument) (lt : k < length xs) (e : x ≡ get_or xs k x) where
    here : drop k xs ≡ x ∷ drop (suc k) xs
    here = drop-cons xs k x lt ∙ ap (λ (y : Argument). y ∷ drop (suc k) xs) (sym e)

    pub place_found : passed x b ≡ None → k ≡ total
    place_found none = let i = ap (λ (ys : List Argument). array_place ys b) here ∙ found_first x (drop (suc k) xs) b none in omega (arith, i, is)

    pub place_later : (c : ℕ) → passed x b ≡ Some c → (k + 1) + array_place (drop (k + 1) xs) c ≡ total
    place_later c some =
        let i = ap (λ (ys : List Argument). array_place ys b) here ∙ found_later x (drop (suc k) xs) b c some in
        let j : array_place (drop (k + 1) xs) c ≡ array_place (drop (suc k) xs) c = ap (λ (n : ℕ). array_place (drop n xs) c) (let n : k + 1 ≡ suc k = omega arith in n) in
        omega (arith, i, j, is)

  pub place_past : length xs ≤ k → k ≤ length xs → length xs ≡ total
  place_past h l = let i = ap (λ (ys : List Argument). array_place ys b) (none k xs h) in omega (arith, i, is, h, l)
    where
      none : (k : ℕ) (xs : List Argument) → length xs ≤ k → drop k xs ≡ []
      none zero [] h = refl
      none (suc k) [] h = refl
      none zero (x ∷ xs) h = absurd (omega (arith, h))
      none (suc k) (x ∷ xs) h = none k xs (omega (arith, h))
