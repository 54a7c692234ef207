-- Of the indices of a `foreach`: a fact about each, and that they are different variables.
use Rattle.std.specs.Prelude.{◌≢◌, ℕ, List, [], ◌∷◌}
use Rattle.isp_typed.specs.Typed.{TRange}

abbrev pub EachIndex : (ℕ → Type 0) → List TRange → Type 0
EachIndex P [] = Unit {0}
EachIndex P (r ∷ rs) = P r.index × EachIndex P rs

abbrev pub AreApart : List TRange → Type 0
AreApart [] = Unit {0}
AreApart (r ∷ rs) = EachIndex (λ i. r.index ≢ i) rs × AreApart rs
