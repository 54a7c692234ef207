-- Lists of places without the places.
use Rattle.std.proofs.Common.{◌≡◌, List, [], ◌∷◌, length, map, ap, refl, arith}
use Rattle.isp_base.specs.declared.types.Span.{Span}
use Rattle.isp_alike.specs.Bare.{nowhere}

pub as_many : (xs ys : List Span) → length xs ≡ length ys → map (λ s. nowhere) xs ≡ map (λ s. nowhere) ys
as_many [] [] h = refl
as_many [] (y ∷ ys) h = absurd (omega (arith, h))
as_many (x ∷ xs) [] h = absurd (omega (arith, h))
as_many (x ∷ xs) (y ∷ ys) h = ap (λ (z : List Span). nowhere ∷ z) (as_many xs ys (omega (arith, h)))
