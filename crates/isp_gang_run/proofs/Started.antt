-- Arguments one by one.
use Rattle.std.proofs.Common.{◌≡◌, refl, sym, ap, ap₂, ◌∙◌, ℕ, zero, suc, ◌+◌, ◌<◌, ◌≤◌, List, [], ◌∷◌, ◌++◌, map, length, drop, get_or, arith, append_assoc}
use Rattle.isp_base.specs.Arguments.{rows}
use Rattle.isp_base.specs.Rows.{Row}
use Rattle.isp_base.specs.declared.signature.Argument.{Argument}
use Rattle.isp_base.specs.declared.signature.Argument.TheVariants.{Value as AValue, Array as AnArray}
use Rattle.isp_meaning.specs.Expressions.{Passed}
use Rattle.isp_meaning.specs.Runs.{handed}
use Rattle.isp_gang_run.specs.Starting.{next_after, one_handed, one_size, one_store}

drop_at : (k : ℕ) (xs : List Argument) (x : Argument) → k < length xs → x ≡ get_or xs k x → drop k xs ≡ x ∷ drop (suc k) xs
drop_at k [] x h e = absurd (omega (arith, h))
drop_at zero (y ∷ xs) x h e = ap (λ z. z ∷ xs) (sym e)
drop_at (suc k) (y ∷ xs) x h e = drop_at k xs x (omega (arith, h)) e

drop_all : (k : ℕ) (xs : List Argument) → length xs ≤ k → drop k xs ≡ []
drop_all zero [] h = refl
drop_all (suc k) [] h = refl
drop_all zero (x ∷ xs) h = absurd (omega (arith, h))
drop_all (suc k) (x ∷ xs) h = drop_all k xs (omega (arith, h))

append_nil : {A : Type 0} (xs : List A) → xs ++ [] ≡ xs
append_nil [] = refl
append_nil (x ∷ xs) = ap (λ ys. x ∷ ys) (append_nil xs)

handed_next : (b : ℕ) (x : Argument) (xs : List Argument) → handed b (x ∷ xs) ≡ one_handed b x ∷ handed (next_after b x) xs
handed_next b (AValue v) xs = refl
handed_next b (AnArray r) xs = refl

stores_next : (x : Argument) (xs : List Argument) → map (λ (r : Row). r.bits) (rows (x ∷ xs)) ≡ one_store x ++ map (λ (r : Row). r.bits) (rows xs)
stores_next (AValue v) xs = refl
stores_next (AnArray r) xs = refl

sizes_next : (x : Argument) (xs : List Argument) → map (λ (r : Row). length r.bits) (rows (x ∷ xs)) ≡ one_size x ++ map (λ (r : Row). length r.bits) (rows xs)
sizes_next (AValue v) xs = refl
sizes_next (AnArray r) xs = refl

-- so far, and what is left
module _ {A : Type 0} (f : List Argument → List A) where
  abbrev pub so_far : List A → ℕ → List Argument → List A
  so_far out k xs = out ++ f (drop k xs)

  pub one_more : (one : List A) (out : List A) (k : ℕ) (xs : List Argument) (x : Argument) → k < length xs → x ≡ get_or xs k x → f (x ∷ drop (suc k) xs) ≡ one ++ f (drop (suc k) xs) → so_far (out ++ one) (k + 1) xs ≡ so_far out k xs
  one_more one out k xs x h e is =
      let i : k + 1 ≡ suc k = omega arith in
      ap (λ (n : ℕ). so_far (out ++ one) n xs) i
      ∙ append_assoc out one (f (drop (suc k) xs))
      ∙ ap (λ ys. out ++ ys) (sym is)
      ∙ ap (λ ys. out ++ f ys) (sym (drop_at k xs x h e))

  pub at_end : (out : List A) (k : ℕ) (xs : List Argument) → length xs ≤ k → f [] ≡ [] → so_far out k xs ≡ out
  at_end out k xs h e = ap (λ ys. out ++ f ys) (drop_all k xs h) ∙ ap (λ ys. out ++ ys) e ∙ append_nil out

abbrev pub bits_in : List Argument → List (List ℕ)
bits_in xs = map (λ (r : Row). r.bits) (rows xs)

abbrev pub sizes_in : List Argument → List ℕ
sizes_in xs = map (λ (r : Row). length r.bits) (rows xs)

pub one_store_more : (out new : List (List ℕ)) (k : ℕ) (xs : List Argument) (x : Argument) → k < length xs → x ≡ get_or xs k x → new ≡ out ++ one_store x → so_far bits_in new (k + 1) xs ≡ so_far bits_in out k xs
one_store_more out new k xs x h e is = ap (λ ys. so_far bits_in ys (k + 1) xs) is ∙ one_more bits_in (one_store x) out k xs x h e (stores_next x (drop (suc k) xs))

pub one_size_more : (out new : List ℕ) (k : ℕ) (xs : List Argument) (x : Argument) → k < length xs → x ≡ get_or xs k x → new ≡ out ++ one_size x → so_far sizes_in new (k + 1) xs ≡ so_far sizes_in out k xs
one_size_more out new k xs x h e is = ap (λ ys. so_far sizes_in ys (k + 1) xs) is ∙ one_more sizes_in (one_size x) out k xs x h e (sizes_next x (drop (suc k) xs))

-- what is handed over
abbrev pub handed_from : List Passed → ℕ → ℕ → List Argument → List Passed
handed_from out b k xs = out ++ handed b (drop k xs)

pub one_hand_more : (out : List Passed) (b k : ℕ) (xs : List Argument) (x : Argument) (p : Passed) (c : ℕ) → k < length xs → x ≡ get_or xs k x
    → p ≡ one_handed b x → c ≡ next_after b x → handed_from (out ++ p ∷ []) c (k + 1) xs ≡ handed_from out b k xs
one_hand_more out b k xs x p c h e is at =
    let i : k + 1 ≡ suc k = omega arith in
    ap (λ (n : ℕ). handed_from (out ++ p ∷ []) c n xs) i
    ∙ append_assoc out (p ∷ []) (handed c (drop (suc k) xs))
    ∙ ap₂ (λ (q : Passed) (d : ℕ). out ++ (q ∷ handed d (drop (suc k) xs))) is at
    ∙ ap (λ ys. out ++ ys) (sym (handed_next b x (drop (suc k) xs)))
    ∙ ap (λ ys. out ++ handed b ys) (sym (drop_at k xs x h e))

pub hand_end : (out : List Passed) (b k : ℕ) (xs : List Argument) → length xs ≤ k → handed_from out b k xs ≡ out
hand_end out b k xs h = ap (λ ys. out ++ handed b ys) (drop_all k xs h) ∙ append_nil out

pub next_low : (b k : ℕ) (x : Argument) → b ≤ k → next_after b x ≤ k + 1
next_low b k (AValue v) h = omega (arith, h)
next_low b k (AnArray r) h = omega (arith, h)

pub map_more : {A B : Type 0} (f : A → B) (xs : List A) (x : A) → map f (xs ++ x ∷ []) ≡ map f xs ++ f x ∷ []
map_more f [] x = refl
map_more f (y ∷ xs) x = ap (λ ys. f y ∷ ys) (map_more f xs x)
