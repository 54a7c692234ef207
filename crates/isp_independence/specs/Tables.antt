-- Tables of calls as code holds them.
use Rattle.std.specs.Prelude.{ℕ, List, map}
use Rattle.std.proofs.Common.{Vec, Global}

-- the rows, without where they lie in memory
abbrev pub lists_of : List (Vec ℕ Global) → List (List ℕ)
lists_of = map (λ v. v.items)
