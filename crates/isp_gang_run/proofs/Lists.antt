-- Slices: nothing is left, or a first one and the others.
use Rattle.std.proofs.Common.{◌≡◌, refl, List, [], ◌∷◌, ◌<◌, length, arith}

pub nothing_left : {A : Type 0} (xs : List A) → length xs < 1 → xs ≡ []
nothing_left [] h = refl
nothing_left (x ∷ xs) h = absurd (omega (arith, h))
