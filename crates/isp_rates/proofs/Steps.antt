-- Loops that carry the first fault seen.
use Rattle.std.proofs.Common.{◌≡◌, ℕ, zero, suc, ◌+◌, ◌<◌, ◌≤◌, ◌⊎◌, inl, inr, arith, refl, sym, ap, ◌∙◌, drop, drop-cons, add-one, get_or}
use Rattle.std.specs.Prelude.{Option, None, List, [], ◌∷◌, length, min}
use Rattle.std.proofs.lemmas.Bool.{cases_lt}
use Rattle.std.proofs.lemmas.List.{drop_all}
use Rattle.isp_lex.specs.declared.fault.Fault.{Fault}
use Rattle.isp_typed.specs.Verdicts.{first_of}
use Rattle.isp_typed.proofs.Order.{first_assoc, first_none}
use Rattle.isp_rates.specs.Rates.{later}

cons_is : {A : Type 0} (a b : A) (xs ys : List A) → a ≡ b → xs ≡ ys → a ∷ xs ≡ b ∷ ys
cons_is a b xs ys p q = cc

pub split_at : {A : Type 0} (xs : List A) (i : ℕ) (x : A) → i < length xs → x ≡ get_or xs i x → drop i xs ≡ x ∷ drop (i + 1) xs
split_at xs i x h e = drop-cons xs i x h ∙ cons_is _ _ _ _ (sym e) (ap (λ n. drop n xs) (sym (add-one i)))

later_drop_suc : {A : Type 0} (i : ℕ) (ps : List A) → later (drop i ps) ≡ drop (suc i) ps
later_drop_suc zero [] = refl
later_drop_suc zero (p ∷ ps) = refl
later_drop_suc (suc i) [] = refl
later_drop_suc (suc i) (p ∷ ps) = later_drop_suc i ps

pub later_drop : {A : Type 0} (i : ℕ) (ps : List A) → later (drop i ps) ≡ drop (i + 1) ps
later_drop i ps = later_drop_suc i ps ∙ ap (λ n. drop n ps) (sym (add-one i))

-- over one list
module _ {R : Type 0} (all : List R → Option Fault) (one : R → Option Fault) (turn : (x : R) (xs : List R) → all (x ∷ xs) ≡ first_of (one x) (all xs)) where
  pub each_step : (xs : List R) (i : ℕ) (x : R) (seen total : Option Fault) → i < length xs → x ≡ get_or xs i x
      → first_of seen (all (drop i xs)) ≡ total → first_of (first_of seen (one x)) (all (drop (i + 1) xs)) ≡ total
  each_step xs i x seen total h e k =
      first_assoc seen (one x) (all (drop (i + 1) xs))
      ∙ (ap (first_of seen) (sym (turn x (drop (i + 1) xs)) ∙ ap all (sym (split_at xs i x h e))) ∙ k)

-- over a list beside which another is used up
module _ {S R : Type 0} (all : List S → List R → Option Fault) (one : List S → R → Option Fault)
    (turn : (ps : List S) (x : R) (xs : List R) → all ps (x ∷ xs) ≡ first_of (one ps x) (all (later ps) xs)) where
  pub beside_step : (ps : List S) (xs : List R) (i : ℕ) (x : R) (seen total : Option Fault) → i < length xs → x ≡ get_or xs i x
      → first_of seen (all (drop i ps) (drop i xs)) ≡ total → first_of (first_of seen (one (drop i ps) x)) (all (drop (i + 1) ps) (drop (i + 1) xs)) ≡ total
  beside_step ps xs i x seen total h e k =
      first_assoc seen (one (drop i ps) x) (all (drop (i + 1) ps) (drop (i + 1) xs))
      ∙ (ap (first_of seen) (ap (λ (z : List S). first_of (one (drop i ps) x) (all z (drop (i + 1) xs))) (sym (later_drop i ps)) ∙ (sym (turn (drop i ps) x (drop (i + 1) xs)) ∙ ap (all (drop i ps)) (sym (split_at xs i x h e)))) ∙ k)

-- over two lists together
module _ {A B : Type 0} (all : List A → List B → Option Fault) (one : A → B → Option Fault)
    (turn : (x : A) (xs : List A) (y : B) (ys : List B) → all (x ∷ xs) (y ∷ ys) ≡ first_of (one x y) (all xs ys)) where
  pub pairs_step : (xs : List A) (ys : List B) (n m : ℕ) (x : A) (y : B) (seen total : Option Fault) → m ≡ n + 1 → n < length xs → n < length ys → x ≡ get_or xs n x → y ≡ get_or ys n y
      → first_of seen (all (drop n xs) (drop n ys)) ≡ total
      → first_of (first_of seen (one x y)) (all (drop m xs) (drop m ys)) ≡ total
  pairs_step xs ys n m x y seen total e lx ly ex ey h =
      first_assoc seen (one x y) (all (drop m xs) (drop m ys))
      ∙ (ap (λ (z : ℕ). first_of seen (first_of (one x y) (all (drop z xs) (drop z ys)))) e
      ∙ (ap (first_of seen) (sym (turn x (drop (n + 1) xs) y (drop (n + 1) ys))
      ∙ (ap (λ (z : List A). all z (y ∷ drop (n + 1) ys)) (sym (split_at xs n x lx ex)) ∙ ap (all (drop n xs)) (sym (split_at ys n y ly ey))))
      ∙ h))

  over : (xs : List A) (ys : List B) (n : ℕ) → ((ys : List B) → all [] ys ≡ None) → ((xs : List A) → all xs [] ≡ None) → (length xs ≤ n) ⊎ (length ys ≤ n) → all (drop n xs) (drop n ys) ≡ None
  over xs ys n left right (inl h) = ap (λ (z : List A). all z (drop n ys)) (drop_all n xs h) ∙ left _
  over xs ys n left right (inr h) = ap (all (drop n xs)) (drop_all n ys h) ∙ right _

  shorter : (a b n : ℕ) → n ≡ min a b → (a < b) ⊎ (b ≤ a) → (a ≤ n) ⊎ (b ≤ n)
  shorter a b n e (inl h) = inl (omega arith)
  shorter a b n e (inr h) = inr (omega arith)

  pub pairs_end : (xs : List A) (ys : List B) (n : ℕ) (seen total : Option Fault) → ((ys : List B) → all [] ys ≡ None) → ((xs : List A) → all xs [] ≡ None)
      → n ≡ min (length xs) (length ys) → first_of seen (all (drop n xs) (drop n ys)) ≡ total → seen ≡ total
  pairs_end xs ys n seen total left right e h =
      sym (first_none seen) ∙ (ap (first_of seen) (sym (over xs ys n left right (shorter _ _ n e (cases_lt (length xs) (length ys))))) ∙ h)
