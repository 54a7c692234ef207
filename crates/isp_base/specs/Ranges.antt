-- Which whole numbers an element type has.
use Rattle.std.specs.Prelude.{◌≡◌, ℕ, ◌^◌, ℤ, pos, ◌+ℤ◌, ◌*ℤ◌, ◌≤ℤ◌, ◌<ℤ◌}
use lib.IntN.{neg_ℤ}
use Rattle.isp_base.specs.declared.types.Elem.{Elem}
use Rattle.isp_base.specs.declared.types.Elem.TheVariants.{Bool as Truth, I8, U8, I16, U16, I32, U32, I64, U64}

-- two's complement in w bits
abbrev pub IsSigned : ℕ → ℤ → Type 0
IsSigned w z = (neg_ℤ (pos (2 ^ w)) ≤ℤ z) × (z <ℤ pos (2 ^ w))

abbrev pub IsUnsigned : ℕ → ℤ → Type 0
IsUnsigned w z = (pos 0 ≤ℤ z) × (z <ℤ pos (2 ^ w))

-- z is a value of the type
abbrev pub IsValue : Elem → ℤ → Type 0
IsValue Truth z = IsUnsigned 1 z
IsValue I8 z = IsSigned 7 z
IsValue U8 z = IsUnsigned 8 z
IsValue I16 z = IsSigned 15 z
IsValue U16 z = IsUnsigned 16 z
IsValue I32 z = IsSigned 31 z
IsValue U32 z = IsUnsigned 32 z
IsValue I64 z = IsSigned 63 z
IsValue U64 z = IsUnsigned 64 z

-- y and z differ by a multiple of m
abbrev pub SameModulo : ℕ → ℤ → ℤ → Type 0
SameModulo m y z = (k : ℤ) × (y ≡ z +ℤ k *ℤ pos m)
