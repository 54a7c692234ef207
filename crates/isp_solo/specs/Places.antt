-- Which argument an array among them is.
use Rattle.std.specs.Prelude.{ℕ, zero, suc, List, [], ◌∷◌, Option, Some, None}
use Rattle.isp_base.specs.declared.signature.Argument.{Argument}
use Rattle.isp_base.specs.declared.signature.Argument.TheVariants.{Value as AValue, Array as AnArray}

-- the b-th array
abbrev pub array_place : List Argument → ℕ → ℕ
array_place [] b = 0
array_place (AValue v ∷ xs) b = suc (array_place xs b)
array_place (AnArray r ∷ xs) zero = 0
array_place (AnArray r ∷ xs) (suc b) = suc (array_place xs b)

-- after an argument, which array it is of those that follow; nothing where it is the argument
abbrev pub passed : Argument → ℕ → Option ℕ
passed (AValue v) b = Some b
passed (AnArray r) zero = None
passed (AnArray r) (suc b) = Some b
