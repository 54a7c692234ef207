-- What is known of an index that is not outside.
use Rattle.std.specs.Prelude.{◌≡◌, ℕ, ◌<◌, true}
use Rattle.isp_base.specs.Access.{element}
use Rattle.isp_base.specs.Maps.{Lanes}
use Rattle.isp_base.specs.Sets.{Mask}
use Rattle.isp_base.specs.declared.types.Elem.TheVariants.{I64}

-- an index's bits are the number of an element
abbrev pub IsInside : ℕ → ℕ → Type 0
IsInside count x = (x < count) × (element I64 x ≡ x)

-- so are those of each lane of a set
abbrev pub AreInside : ℕ → Mask → Lanes → Type 0
AreInside count a x = (p : ℕ) → a p ≡ true → IsInside count (x p)
