-- What two reads after one another take.
use Rattle.std.proofs.Common.{◌++◌, ℕ, List, Option, None, Some, ◌∙◌, ap, sym, append_assoc}
use Rattle.std.specs.Io.KnownBytes.{Consumes}

pub consumes_more : (a b c : Option (List ℕ)) (xs ys : List ℕ) → Consumes a b xs → Consumes b c ys → Consumes a c (xs ++ ys)
consumes_more None b c xs ys h k = tt
consumes_more (Some as') None c xs ys h k = absurd h
consumes_more (Some as') (Some bs) None xs ys h k = absurd k
consumes_more (Some as') (Some bs) (Some cs) xs ys h k = h ∙ ap (λ z. xs ++ z) k ∙ sym (append_assoc xs ys cs)
