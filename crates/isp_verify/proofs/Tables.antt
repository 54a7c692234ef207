-- The elements of a list and of what is made of it.
use Rattle.std.proofs.Common.{◌≡◌, sym, ◌∙◌, refl, ap, ℕ, zero, suc, ◌<◌, ◌≤◌, List, [], ◌∷◌, length, map, take, get_or, arith}
use Rattle.std.proofs.lemmas.List.{take-map, length-take-le}

-- an element, and the element of the other list at its place
pub at_map : {A B : Type 0} (f : A → B) (xs : List A) (k : ℕ) (x : A) (y : B) → k < length xs → x ≡ get_or xs k x → y ≡ get_or (map f xs) k y → y ≡ f x
at_map f [] k x y low at there = absurd (omega (arith, low))
at_map f (z ∷ xs) zero x y low at there = there ∙ ap f (sym at)
at_map f (z ∷ xs) (suc k) x y low at there = at_map f xs k x y (omega (arith, low)) at there

maps : {A B C : Type 0} (g : B → C) (f : A → B) (xs : List A) → map g (map f xs) ≡ map (λ x. g (f x)) xs
maps g f [] = refl
maps g f (x ∷ xs) = ap (λ ys. g (f x) ∷ ys) (maps g f xs)

-- the same over two lists that are made one of the other
pub at_maps : {A B C : Type 0} (g : B → C) (f : A → B) (xs : List A) (ys : List B) (zs : List C) (k : ℕ) (x : A) (z : C) → k < length xs → map f xs ≡ ys → zs ≡ map g ys → x ≡ get_or xs k x → z ≡ get_or zs k z → z ≡ g (f x)
at_maps g f xs ys zs k x z low made made2 at there =
    at_map (λ x. g (f x)) xs k x z low at (there ∙ ap (λ ts. get_or ts k z) (made2 ∙ ap (map g) (sym made) ∙ maps g f xs))

take_map_to : {A B : Type 0} (f : A → B) (n k : ℕ) (xs : List A) (ys : List B) → n ≡ k → map f xs ≡ ys → map f (take k xs) ≡ take n ys
take_map_to f n k xs ys e made = sym (take-map f k xs) ∙ ap (take k) made ∙ ap (λ m. take m ys) (sym e)

-- what comes before a place, in both lists
pub before_map : {A B : Type 0} (f : A → B) (k : ℕ) (xs : List A) (ys : List B) → k ≤ length xs → map f xs ≡ ys → map f (take k xs) ≡ take (length (take k xs)) ys
before_map f k xs ys low made = take_map_to f (length (take k xs)) k xs ys (length-take-le k xs low) made
