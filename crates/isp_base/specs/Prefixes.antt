-- When one list begins with another.
use Rattle.std.specs.Prelude.{◌≡◌, ℕ, List, ◌++◌}

-- ys begins with xs
abbrev pub IsPrefix : List ℕ → List ℕ → Type 0
IsPrefix xs ys = (rest : List ℕ) × (xs ++ rest ≡ ys)
