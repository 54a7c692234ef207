-- What holds of the elements of a list, of its pairs in order, and of one of them at least.
use Rattle.std.proofs.Common.{◌≡◌, refl, ap, subst, ℕ, zero, suc, ◌*◌, ◌<◌, ◌⊎◌, inl, inr, List, [], ◌∷◌, ◌++◌, map, Some, None, arith}
use Rattle.std.specs.Prelude.{Option, slice_get, ℤ, pos, ◌+ℤ◌}
use Rattle.std.proofs.lemmas.Int.{ints}
use Rattle.isp_meaning.specs.Rounds.{from_on, joined_lists}

abbrev pub AllOf : {A : Type 0} → (A → Type 0) → List A → Type 0
AllOf P [] = Unit {0}
AllOf P (x ∷ xs) = P x × AllOf P xs

abbrev pub AnyOf : {A : Type 0} → (A → Type 0) → List A → Type 0
AnyOf P [] = ⊥
AnyOf P (x ∷ xs) = P x ⊎ AnyOf P xs

-- each with each that comes after it
abbrev pub Pairs : {A : Type 0} → (A → A → Type 0) → List A → Type 0
Pairs R [] = Unit {0}
Pairs R (x ∷ xs) = AllOf (R x) xs × Pairs R xs

-- each of some with each of others
abbrev pub Across : {A : Type 0} → (A → A → Type 0) → List A → List A → Type 0
Across R xs ys = AllOf (λ x. AllOf (R x) ys) xs

-- ---- by places

module _ {A : Type 0} where
  some_is : (x y : A) → Some x ≡ Some y → x ≡ y
  some_is x y e = ap (λ o. of o) e where
    of : Option A → A
    of None = x
    of (Some z) = z

  none_not : (x : A) → None ≡ Some x → ⊥
  none_not x e = subst (λ o. of o) e tt where
    of : Option A → Type 0
    of None = Unit {0}
    of (Some z) = ⊥

  pub at_all : (P : A → Type 0) (xs : List A) (k : ℕ) (x : A) → slice_get xs k ≡ Some x → AllOf P xs → P x
  at_all P [] k x e h = absurd (none_not x e)
  at_all P (y ∷ xs) zero x e h = subst P (some_is y x e) h.0
  at_all P (y ∷ xs) (suc k) x e h = at_all P xs k x e h.1

  pub at_any : (P : A → Type 0) (xs : List A) → AnyOf P xs → (k : ℕ) × (x : A) × (slice_get xs k ≡ Some x) × P x
  at_any P [] h = absurd h
  at_any P (x ∷ xs) (inl h) = (0, x, refl, h)
  at_any P (x ∷ xs) (inr h) = let r = at_any P xs h in (suc r.0, r.1, r.2, r.3)

  pub at_pairs : (R : A → A → Type 0) (xs : List A) (k l : ℕ) (x y : A) → slice_get xs k ≡ Some x → slice_get xs l ≡ Some y → k < l → Pairs R xs → R x y
  at_pairs R [] k l x y e f lt h = absurd (none_not x e)
  at_pairs R (z ∷ xs) k zero x y e f lt h = absurd (omega (arith, lt))
  at_pairs R (z ∷ xs) zero (suc l) x y e f lt h = subst (λ w. R w y) (some_is z x e) (at_all (R z) xs l y f h.0)
  at_pairs R (z ∷ xs) (suc k) (suc l) x y e f lt h = at_pairs R xs k l x y e f (omega (arith, lt)) h.1

  -- ---- appended

  all_append : (P : A → Type 0) (xs ys : List A) → AllOf P xs → AllOf P ys → AllOf P (xs ++ ys)
  all_append P [] ys h k = k
  all_append P (x ∷ xs) ys h k = (h.0, all_append P xs ys h.1 k)

  any_first : (P : A → Type 0) (xs ys : List A) → AnyOf P xs → AnyOf P (xs ++ ys)
  any_first P [] ys h = absurd h
  any_first P (x ∷ xs) ys (inl h) = inl h
  any_first P (x ∷ xs) ys (inr h) = inr (any_first P xs ys h)

  any_second : (P : A → Type 0) (xs ys : List A) → AnyOf P ys → AnyOf P (xs ++ ys)
  any_second P [] ys h = h
  any_second P (x ∷ xs) ys h = inr (any_second P xs ys h)

  pairs_append : (R : A → A → Type 0) (xs ys : List A) → Pairs R xs → Pairs R ys → Across R xs ys → Pairs R (xs ++ ys)
  pairs_append R [] ys h k a = k
  pairs_append R (x ∷ xs) ys h k a = (all_append (R x) xs ys h.0 a.0, pairs_append R xs ys h.1 k a.1)

  -- ---- joined

  pub all_joined : (P : A → Type 0) (xss : List (List A)) → AllOf (AllOf P) xss → AllOf P (joined_lists xss)
  all_joined P [] h = tt
  all_joined P (xs ∷ xss) h = all_append P xs (joined_lists xss) h.0 (all_joined P xss h.1)

  pub any_joined : (P : A → Type 0) (xss : List (List A)) → AnyOf (AnyOf P) xss → AnyOf P (joined_lists xss)
  any_joined P [] h = absurd h
  any_joined P (xs ∷ xss) (inl h) = any_first P xs (joined_lists xss) h
  any_joined P (xs ∷ xss) (inr h) = any_second P xs (joined_lists xss) (any_joined P xss h)

  across_none : (R : A → A → Type 0) (xs : List A) → Across R xs []
  across_none R [] = tt
  across_none R (x ∷ xs) = (tt, across_none R xs)

  across_append : (R : A → A → Type 0) (xs ys zs : List A) → Across R xs ys → Across R xs zs → Across R xs (ys ++ zs)
  across_append R [] ys zs h k = tt
  across_append R (x ∷ xs) ys zs h k = (all_append (R x) ys zs h.0 k.0, across_append R xs ys zs h.1 k.1)

  across_joined : (R : A → A → Type 0) (xs : List A) (yss : List (List A)) → AllOf (Across R xs) yss → Across R xs (joined_lists yss)
  across_joined R xs [] h = across_none R xs
  across_joined R xs (ys ∷ yss) h = across_append R xs ys (joined_lists yss) h.0 (across_joined R xs yss h.1)

  pub pairs_joined : (R : A → A → Type 0) (xss : List (List A)) → AllOf (Pairs R) xss → Pairs (Across R) xss → Pairs R (joined_lists xss)
  pairs_joined R [] h k = tt
  pairs_joined R (xs ∷ xss) h k = pairs_append R xs (joined_lists xss) h.0 (pairs_joined R xss h.1 k.1) (across_joined R xs xss k.0)

-- ---- mapped

module _ {A : Type 0} {B : Type 0} (f : A → B) where
  pub all_map : (P : A → Type 0) (Q : B → Type 0) → ((x : A) → P x → Q (f x)) → (xs : List A) → AllOf P xs → AllOf Q (map f xs)
  all_map P Q g [] h = tt
  all_map P Q g (x ∷ xs) h = (g x h.0, all_map P Q g xs h.1)

  pub any_map : (P : A → Type 0) (Q : B → Type 0) → ((x : A) → P x → Q (f x)) → (xs : List A) → AnyOf P xs → AnyOf Q (map f xs)
  any_map P Q g [] h = absurd h
  any_map P Q g (x ∷ xs) (inl h) = inl (g x h)
  any_map P Q g (x ∷ xs) (inr h) = inr (any_map P Q g xs h)

  pub pairs_map : (R : A → A → Type 0) (S : B → B → Type 0) → ((x y : A) → R x y → S (f x) (f y)) → (xs : List A) → Pairs R xs → Pairs S (map f xs)
  pairs_map R S g [] h = tt
  pairs_map R S g (x ∷ xs) h = (all_map (R x) (S (f x)) (λ y r. g x y r) xs h.0, pairs_map R S g xs h.1)

-- each of one list with each of another
pub across_all : {A : Type 0} {B : Type 0} {C : Type 0} (R : C → C → Type 0) (f : A → C) (g : B → C) → ((x : A) (y : B) → R (f x) (g y)) → (xs : List A) (ys : List B) → Across R (map f xs) (map g ys)
across_all {A} {B} R f g h [] ys = tt
across_all {A} {B} R f g h (x ∷ xs) ys = (all ys, across_all R f g h xs ys) where
  all : (ys : List B) → AllOf (R (f x)) (map g ys)
  all [] = tt
  all (y ∷ ys) = (h x y, all ys)

-- ---- numbers from z on, each greater than the one before by k

none_on : (k : ℕ) (z : ℤ) → z +ℤ pos (0 * k) ≡ z
none_on k z = omega (arith, ints)

one_on : (k i : ℕ) (z : ℤ) → z +ℤ pos (suc i * k) ≡ z +ℤ pos k +ℤ pos (i * k)
one_on k i z = omega (arith, ints)

module _ {A : Type 0} (k : ℕ) (f : ℤ → A) where
  pub all_from : (Q : A → Type 0) (n : ℕ) (z : ℤ) → ((i : ℕ) → i < n → Q (f (z +ℤ pos (i * k)))) → AllOf Q (map f (from_on k n z))
  all_from Q zero z h = tt
  all_from Q (suc n) z h =
      (subst (λ w. Q (f w)) (none_on k z) (h 0 (omega arith)), all_from Q n (z +ℤ pos k) (λ i lt. subst (λ w. Q (f w)) (one_on k i z) (h (suc i) (omega (arith, lt)))))

  pub any_from : (Q : A → Type 0) (n : ℕ) (z : ℤ) (i : ℕ) → i < n → Q (f (z +ℤ pos (i * k))) → AnyOf Q (map f (from_on k n z))
  any_from Q zero z i lt h = absurd (omega (arith, lt))
  any_from Q (suc n) z zero lt h = inl (subst (λ w. Q (f w)) (none_on k z) h)
  any_from Q (suc n) z (suc i) lt h = inr (any_from Q n (z +ℤ pos k) i (omega (arith, lt)) (subst (λ w. Q (f w)) (one_on k i z) h))

  pub pairs_from : (R : A → A → Type 0) (n : ℕ) (z : ℤ) → ((i j : ℕ) → i < j → j < n → R (f (z +ℤ pos (i * k))) (f (z +ℤ pos (j * k)))) → Pairs R (map f (from_on k n z))
  pairs_from R zero z h = tt
  pairs_from R (suc n) z h = (
    all_from (R (f z)) n (z +ℤ pos k) (λ i lt. subst (λ w. R (f w) (f (z +ℤ pos k +ℤ pos (i * k)))) (none_on k z) (subst (λ w. R (f (z +ℤ pos (0 * k))) (f w)) (one_on k i z) (h 0 (suc i) (omega arith) (omega (arith, lt))))),
    pairs_from R n (z +ℤ pos k) (λ i j lt ln. subst (λ w. R (f w) (f (z +ℤ pos k +ℤ pos (j * k)))) (one_on k i z) (subst (λ w. R (f (z +ℤ pos (suc i * k))) (f w)) (one_on k j z) (h (suc i) (suc j) (omega (arith, lt)) (omega (arith, ln))))),
  )
