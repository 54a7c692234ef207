-- Loops that carry the first breach seen, or whether something was seen.
use Rattle.std.proofs.Common.{◌≡◌, ℕ, ◌+◌, ◌<◌, Bool, true, false, refl, sym, ap, ◌∙◌, drop, drop-cons, add-one, get_or, append_assoc}
use Rattle.std.specs.Prelude.{Option, List, [], ◌∷◌, ◌++◌, length, ◌||◌}
use Rattle.isp_independence.specs.declared.dependence.Dependence.{Dependence}
use Rattle.isp_independence.specs.reader.Answers.{first_of}
use Rattle.isp_independence.proofs.Order.{first_assoc}

cons_is : {A : Type 0} (a b : A) (xs ys : List A) → a ≡ b → xs ≡ ys → a ∷ xs ≡ b ∷ ys
cons_is a b xs ys p q = cc

pub split_at : {A : Type 0} (xs : List A) (i : ℕ) (x : A) → i < length xs → x ≡ get_or xs i x → drop i xs ≡ x ∷ drop (i + 1) xs
split_at xs i x h e = drop-cons xs i x h ∙ cons_is _ _ _ _ (sym e) (ap (λ n. drop n xs) (sym (add-one i)))

-- over one list
module _ {R : Type 0} (all : List R → Option Dependence) (one : R → Option Dependence) (turn : (x : R) (xs : List R) → all (x ∷ xs) ≡ first_of (one x) (all xs)) where
  pub each_step : (xs : List R) (i : ℕ) (x : R) (seen total : Option Dependence) → i < length xs → x ≡ get_or xs i x
      → first_of seen (all (drop i xs)) ≡ total → first_of (first_of seen (one x)) (all (drop (i + 1) xs)) ≡ total
  each_step xs i x seen total h e k =
      first_assoc seen (one x) (all (drop (i + 1) xs))
      ∙ (ap (first_of seen) (sym (turn x (drop (i + 1) xs)) ∙ ap all (sym (split_at xs i x h e))) ∙ k)

pub or_none : (a : Bool) → (a || false) ≡ a
or_none true = refl
or_none false = refl

or_assoc : (a b c : Bool) → ((a || b) || c) ≡ (a || (b || c))
or_assoc true b c = refl
or_assoc false b c = refl

module _ {R : Type 0} (all : List R → Bool) (one : R → Bool) (turn : (x : R) (xs : List R) → all (x ∷ xs) ≡ (one x || all xs)) where
  pub any_step : (xs : List R) (i : ℕ) (x : R) (seen total : Bool) → i < length xs → x ≡ get_or xs i x
      → (seen || all (drop i xs)) ≡ total → ((seen || one x) || all (drop (i + 1) xs)) ≡ total
  any_step xs i x seen total h e k =
      or_assoc seen (one x) (all (drop (i + 1) xs))
      ∙ (ap (λ z. seen || z) (sym (turn x (drop (i + 1) xs)) ∙ ap all (sym (split_at xs i x h e))) ∙ k)

-- over one list, with one more each time
module _ {R B : Type 0} (all : List R → List B) (one : R → B) (turn : (x : R) (xs : List R) → all (x ∷ xs) ≡ one x ∷ all xs) where
  pub push_step : (xs : List R) (i : ℕ) (x : R) (seen next total : List B) → i < length xs → x ≡ get_or xs i x → next ≡ seen ++ one x ∷ []
      → seen ++ all (drop i xs) ≡ total → next ++ all (drop (i + 1) xs) ≡ total
  push_step xs i x seen next total h e n k =
      ap (λ (z : List B). z ++ all (drop (i + 1) xs)) n
      ∙ (append_assoc seen (one x ∷ []) (all (drop (i + 1) xs))
      ∙ (ap (λ (z : List B). seen ++ z) (sym (turn x (drop (i + 1) xs)) ∙ ap all (sym (split_at xs i x h e))) ∙ k))
