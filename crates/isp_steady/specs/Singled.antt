-- The scalar expression of a steady or a linear one is uniform, and names and types accept it among variables of which each known one is uniform.
use Rattle.std.specs.Prelude.{◌≡◌, ℕ, suc, List, [], ◌∷◌, true, ◌||◌}
use Rattle.isp_typed.specs.Fine.{FineExpr}
use Rattle.isp_typed.specs.Typed.{TExpr, TFunction, type_of}
use Rattle.isp_typed.specs.declared.variable.Holds.{Holds}
use Rattle.isp_typed.specs.declared.variable.Holds.TheVariants as holds
use Rattle.isp_typed.specs.declared.variable.Variable.{Variable}
use Rattle.isp_steady.specs.Known.{Known, Unknown, Steady, Linear}
use Rattle.isp_steady.specs.Steady.{steady}
use Rattle.isp_steady.specs.Linear.{linear}
use Rattle.isp_steady.specs.Alone.{single, alone}

-- a value of its element type that is uniform
abbrev pub held_single : Holds → Holds
held_single (holds.Value t) = holds.Value (single t)
held_single (holds.Given e) = holds.Given e
held_single (holds.Local t n) = holds.Local t n

abbrev pub as_known : Known → Variable → Variable
as_known Unknown v = v
as_known Steady v = record v { holds = held_single v.holds }
as_known Linear v = record v { holds = held_single v.holds }

-- the variables, of which each known one is uniform
abbrev pub singled : (ℕ → Known) → List Variable → List Variable
singled known [] = []
singled known (v ∷ vs) = as_known (known 0) v ∷ singled (λ i. known (suc i)) vs

abbrev pub ScalarsAreFine : Type 0
ScalarsAreFine =
    (fs : List TFunction) (vars : List Variable) (known : ℕ → Known) (x : TExpr)
    → FineExpr fs vars x
    → (steady known x || linear known x) ≡ true
    → FineExpr fs (singled known vars) (alone x) × (type_of (alone x) ≡ single (type_of x))
