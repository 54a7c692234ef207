-- An index that counts the lanes of a set from a whole number on, and what is so while a variable is one.
use Rattle.std.specs.Prelude.{◌≡◌, ℕ, Option, Some, None, true, ℤ, pos, ◌+ℤ◌}
use Rattle.isp_base.specs.Maps.{Lanes}
use Rattle.isp_base.specs.Ranges.{IsValue}
use Rattle.isp_base.specs.Sets.{Mask}
use Rattle.isp_base.specs.Values.{number, wrap}
use Rattle.isp_base.specs.declared.types.Elem.TheVariants.{I32, I64}

pub record CountsFrom (z : ℤ) (a : Mask) (v : Lanes) : Type 0 where
  pub is : (p : ℕ) → a p ≡ true → v p ≡ wrap I32 (z +ℤ pos p)
  pub fits : (p : ℕ) → a p ≡ true → IsValue I32 (z +ℤ pos p)

-- the variable of a run counts its members from the number on that the place's register has
abbrev pub RunHolds : Option ℕ → ℕ → Mask → ℕ → (ℕ → Lanes) → Type 0
RunHolds None start members place each = Unit {0}
RunHolds (Some i) start members place each = (place ≡ start) × CountsFrom (number I64 start) members (each i)
