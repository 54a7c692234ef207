-- Loops that gather the faults of the parts.
use Rattle.std.proofs.Common.{◌≡◌, ℕ, zero, suc, ◌+◌, ◌<◌, ◌≤◌, ◌⊎◌, ◌++◌, inl, inr, arith, refl, sym, ap, ◌∙◌, drop, drop-cons, add-one, get_or, append_assoc, append-nil}
use Rattle.std.specs.Prelude.{List, [], ◌∷◌, length, min}
use Rattle.std.proofs.lemmas.Bool.{cases_lt}
use Rattle.std.proofs.lemmas.List.{drop_all}
use Rattle.isp_lex.specs.declared.fault.Fault.{Fault}
use Rattle.isp_rates.specs.Rates.{later}

same_list : {A : Type 0} (a b : A) (xs ys : List A) → a ≡ b → xs ≡ ys → a ∷ xs ≡ b ∷ ys
same_list a b xs ys p q = cc

split_at : {A : Type 0} (xs : List A) (i : ℕ) (x : A) → i < length xs → x ≡ get_or xs i x → drop i xs ≡ x ∷ drop (i + 1) xs
split_at xs i x h e = drop-cons xs i x h ∙ same_list _ _ _ _ (sym e) (ap (λ n. drop n xs) (sym (add-one i)))

later_drop_suc : {A : Type 0} (i : ℕ) (ps : List A) → later (drop i ps) ≡ drop (suc i) ps
later_drop_suc zero [] = refl
later_drop_suc zero (p ∷ ps) = refl
later_drop_suc (suc i) [] = refl
later_drop_suc (suc i) (p ∷ ps) = later_drop_suc i ps

later_drop : {A : Type 0} (i : ℕ) (ps : List A) → later (drop i ps) ≡ drop (i + 1) ps
later_drop i ps = later_drop_suc i ps ∙ ap (λ n. drop n ps) (sym (add-one i))

-- one more part, where those before it and those after it make up the total
gathered : (seen here rest next total : List Fault) → next ≡ seen ++ here → seen ++ (here ++ rest) ≡ total → next ++ rest ≡ total
gathered seen here rest next total n k = ap (λ (z : List Fault). z ++ rest) n ∙ (append_assoc seen here rest ∙ k)

-- over a list beside which another is used up
module _ {S R : Type 0} (all : List S → List R → List Fault) (one : List S → R → List Fault)
    (turn : (ps : List S) (x : R) (xs : List R) → all ps (x ∷ xs) ≡ one ps x ++ all (later ps) xs) where
  pub beside_step : (ps : List S) (xs : List R) (i : ℕ) (x : R) (seen next total : List Fault) → i < length xs → x ≡ get_or xs i x → next ≡ seen ++ one (drop i ps) x
      → seen ++ all (drop i ps) (drop i xs) ≡ total → next ++ all (drop (i + 1) ps) (drop (i + 1) xs) ≡ total
  beside_step ps xs i x seen next total h e n k =
      gathered seen (one (drop i ps) x) (all (drop (i + 1) ps) (drop (i + 1) xs)) next total n
      (ap (λ (z : List Fault). seen ++ z) (ap (λ (z : List S). one (drop i ps) x ++ all z (drop (i + 1) xs)) (sym (later_drop i ps)) ∙ (sym (turn (drop i ps) x (drop (i + 1) xs)) ∙ ap (all (drop i ps)) (sym (split_at xs i x h e)))) ∙ k)

-- over two lists together
module _ {A B : Type 0} (all : List A → List B → List Fault) (one : A → B → List Fault)
    (turn : (x : A) (xs : List A) (y : B) (ys : List B) → all (x ∷ xs) (y ∷ ys) ≡ one x y ++ all xs ys) where
  pub pairs_step : (xs : List A) (ys : List B) (n m : ℕ) (x : A) (y : B) (seen next total : List Fault) → m ≡ n + 1 → n < length xs → n < length ys → x ≡ get_or xs n x → y ≡ get_or ys n y
      → next ≡ seen ++ one x y → seen ++ all (drop n xs) (drop n ys) ≡ total → next ++ all (drop m xs) (drop m ys) ≡ total
  pairs_step xs ys n m x y seen next total e lx ly ex ey s h =
      ap (λ (z : ℕ). next ++ all (drop z xs) (drop z ys)) e
      ∙ gathered seen (one x y) (all (drop (n + 1) xs) (drop (n + 1) ys)) next total s
      (ap (λ (z : List Fault). seen ++ z) (sym (turn x (drop (n + 1) xs) y (drop (n + 1) ys))
      ∙ (ap (λ (z : List A). all z (y ∷ drop (n + 1) ys)) (sym (split_at xs n x lx ex)) ∙ ap (all (drop n xs)) (sym (split_at ys n y ly ey)))) ∙ h)

  over : (xs : List A) (ys : List B) (n : ℕ) → ((ys : List B) → all [] ys ≡ []) → ((xs : List A) → all xs [] ≡ []) → (length xs ≤ n) ⊎ (length ys ≤ n) → all (drop n xs) (drop n ys) ≡ []
  over xs ys n left right (inl h) = ap (λ (z : List A). all z (drop n ys)) (drop_all n xs h) ∙ left _
  over xs ys n left right (inr h) = ap (all (drop n xs)) (drop_all n ys h) ∙ right _

  shorter : (a b n : ℕ) → n ≡ min a b → (a < b) ⊎ (b ≤ a) → (a ≤ n) ⊎ (b ≤ n)
  shorter a b n e (inl h) = inl (omega arith)
  shorter a b n e (inr h) = inr (omega arith)

  pub pairs_end : (xs : List A) (ys : List B) (n : ℕ) (seen total : List Fault) → ((ys : List B) → all [] ys ≡ []) → ((xs : List A) → all xs [] ≡ [])
      → n ≡ min (length xs) (length ys) → seen ++ all (drop n xs) (drop n ys) ≡ total → seen ≡ total
  pairs_end xs ys n seen total left right e h =
      sym (append-nil seen) ∙ (ap (λ (z : List Fault). seen ++ z) (sym (over xs ys n left right (shorter _ _ n e (cases_lt (length xs) (length ys))))) ∙ h)
