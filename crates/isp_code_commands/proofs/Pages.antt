-- A page of four parts, one after the other.
use Rattle.std.proofs.Common.{◌≡◌, ap, ◌∙◌, ℕ, List, ◌++◌}

pub paged : (out line counts more l c m p1 p2 p3 : List ℕ) → p1 ≡ out ++ line → p2 ≡ p1 ++ counts → p3 ≡ p2 ++ more → line ≡ l → counts ≡ c → more ≡ m → p3 ≡ out ++ l ++ c ++ m
paged out line counts more l c m p1 p2 p3 e1 e2 e3 x y z =
    let first : p1 ≡ out ++ l = e1 ∙ ap (λ t. out ++ t) x in
    let second : p2 ≡ out ++ l ++ c = e2 ∙ ap (λ t. t ++ counts) first ∙ ap (λ t. out ++ l ++ t) y in
    e3 ∙ ap (λ t. t ++ more) second ∙ ap (λ t. out ++ l ++ c ++ t) z
