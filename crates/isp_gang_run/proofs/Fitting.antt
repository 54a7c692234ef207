-- Elements that fit their type.
use Rattle.std.proofs.Common.{◌≡◌, refl, sym, subst, ℕ, zero, suc, ◌+◌, ◌^◌, ◌<◌, ◌≤◌, List, [], ◌∷◌, length, drop, get_or, pow_pos, arith, ⊎_elim}
use Rattle.std.specs.Prelude.{slice_index}
use Rattle.std.proofs.lemmas.Bool.{cases_lt}
use Rattle.isp_base.specs.Rows.{Fit}
use Rattle.isp_base.specs.Values.{width}
use Rattle.isp_base.specs.declared.types.Elem.{Elem}
use Rattle.isp_base.specs.declared.signature.Argument.{Argument}
use Rattle.isp_base.specs.declared.signature.Argument.TheVariants.{Value as AValue, Array as AnArray}
use Rattle.isp_gang_run.specs.Starting.{OneFits, ArgumentsFit}

-- ---- elements one by one

past_end : (xs : List ℕ) (k : ℕ) → length xs ≤ k → slice_index xs k ≡ 0
past_end [] zero h = refl
past_end [] (suc k) h = refl
past_end (x ∷ xs) zero h = absurd (omega (arith, h))
past_end (x ∷ xs) (suc k) h = past_end xs k (omega (arith, h))

abbrev pub FitBelow : ℕ → Elem → List ℕ → Type 0
FitBelow n t bits = (k : ℕ) → k < n → slice_index bits k < 2 ^ width t

pub fit_none : (t : Elem) (bits : List ℕ) → FitBelow 0 t bits
fit_none t bits k h = absurd (omega (arith, h))

pub fit_more : (n : ℕ) (t : Elem) (bits : List ℕ) (x : ℕ)
    → x ≡ slice_index bits n → x < 2 ^ width t → FitBelow n t bits → FitBelow (n + 1) t bits
fit_more n t bits x is fits f k h =
    ⊎_elim (λ (low : k < n). f k low)
    (λ (high : n ≤ k). subst (λ (m : ℕ). slice_index bits m < 2 ^ width t) (let last : n ≡ k = omega (arith, h, high) in last) (subst (λ (y : ℕ). y < 2 ^ width t) is fits)) (cases_lt k n)

pub fit_all : (n : ℕ) (t : Elem) (bits : List ℕ) → length bits ≤ n → FitBelow n t bits → Fit t bits
fit_all n t bits all f k =
    ⊎_elim (λ (low : k < n). f k low)
    (λ (high : n ≤ k). subst (λ (y : ℕ). y < 2 ^ width t) (sym (past_end bits k (omega (arith, all, high)))) (pow_pos (width t))) (cases_lt k n)

-- ---- arguments one by one

abbrev pub EachFits : List Argument → Type 0
EachFits [] = Unit {0}
EachFits (x ∷ xs) = OneFits x × EachFits xs

each_all : (xs : List Argument) → EachFits xs → ArgumentsFit xs
each_all [] h k d l = absurd (omega (arith, l))
each_all (AValue v ∷ xs) h k d l = each_all xs h.1 k d l
each_all (AnArray r ∷ xs) h zero d l = h.0
each_all (AnArray r ∷ xs) h (suc k) d l = each_all xs h.1 k d (omega (arith, l))

-- if those from a place on fit, all do
abbrev pub FitFrom : ℕ → List Argument → Type 0
FitFrom k xs = EachFits (drop k xs) → EachFits xs

pub arguments_begin : (xs : List Argument) → FitFrom 0 xs
arguments_begin xs h = h

pub arguments_more : (k : ℕ) (xs : List Argument) (x : Argument)
    → k < length xs → x ≡ get_or xs k x → OneFits x → FitFrom k xs → FitFrom (k + 1) xs
arguments_more k xs x h e one left rest = let i : k + 1 ≡ suc k = omega arith in left (by k xs h e (subst (λ (n : ℕ). EachFits (drop n xs)) i rest))
  where
    by : (k : ℕ) (xs : List Argument) → k < length xs → x ≡ get_or xs k x → EachFits (drop (suc k) xs) → EachFits (drop k xs)
    by k [] h e r = absurd (omega (arith, h))
    by zero (y ∷ ys) h e r = (subst OneFits e one, r)
    by (suc k) (y ∷ ys) h e r = by k ys (omega (arith, h)) e r

pub arguments_end : (k : ℕ) (xs : List Argument) → length xs ≤ k → FitFrom k xs → ArgumentsFit xs
arguments_end k xs h left = each_all xs (left (by k xs h))
  where
    by : (k : ℕ) (xs : List Argument) → length xs ≤ k → EachFits (drop k xs)
    by zero [] h = tt
    by (suc k) [] h = tt
    by zero (x ∷ xs) h = absurd (omega (arith, h))
    by (suc k) (x ∷ xs) h = by k xs (omega (arith, h))
