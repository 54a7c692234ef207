-- Lists that are empty.
use Rattle.std.proofs.Common.{◌≡◌, ◌==◌, Bool, true, false, refl, arith}
use Rattle.std.proofs.lemmas.Bool.Decides.{nat_tests}
use Rattle.std.specs.Prelude.{List, [], ◌∷◌, length}

pub is_empty : {A : Type 0} (xs : List A) (t : Bool) → t ≡ (length xs == 0) → t ≡ true → xs ≡ []
is_empty [] t e f = refl
is_empty (x ∷ xs) t e f = absurd (let no : ⊥ = grind (arith, nat_tests) in no)

pub not_empty : {A : Type 0} (xs : List A) (t : Bool) → t ≡ (length xs == 0) → t ≡ false → xs ≡ [] → ⊥
not_empty [] t e f h = let none : ⊥ = grind (arith, nat_tests) in none
not_empty (x ∷ xs) t e f h = let none : ⊥ = cc in none
