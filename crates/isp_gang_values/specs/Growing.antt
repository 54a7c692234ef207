-- Vectors that read as nothing where nothing was written.
use Rattle.std.specs.Prelude.{ℕ, zero, suc, List, [], ◌∷◌}
use Rattle.isp_base.specs.Maps.{Lanes, lane_of}

-- what is seen of the element at a place, and what is seen past the end
abbrev pub at_each : {A B : Type 0} → (A → B) → B → List A → ℕ → B
at_each see none [] p = none
at_each see none (x ∷ xs) zero = see x
at_each see none (x ∷ xs) (suc p) = at_each see none xs p

abbrev pub values_of : List ℕ → ℕ → ℕ
values_of = at_each (λ x. x) 0

abbrev pub lanes_of : List (List ℕ) → ℕ → Lanes
lanes_of = at_each lane_of (λ p. 0)
