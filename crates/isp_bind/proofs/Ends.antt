-- The ends of a type's range, and the bits of the values between them.
use Rattle.std.proofs.Common.{◌≡◌, ◌∙◌, ℕ, ◌-◌, ◌*◌, ◌^◌, ◌<◌, ℤ, pos, ◌+ℤ◌, ◌-ℤ◌, ◌≤ℤ◌, arith, mod-eq_of_lt, ap}
use Rattle.std.specs.Prelude.{Ok}
use Rattle.std.proofs.lemmas.Int.{ints}
use Rattle.isp_base.specs.Ranges.{IsValue}
use Rattle.isp_base.specs.Values.{width, greatest}
use Rattle.isp_base.specs.declared.types.Elem.{Elem}
use Rattle.isp_base.specs.declared.types.Elem.TheVariants.{Bool as Truth, I8, U8, I16, U16, I32, U32, I64, U64}
use Rattle.isp_base.proofs.Wraps.{wrap_to-same, wrap_to-pos}
use Rattle.isp_bind.specs.Binding.{whole_bits}
use Rattle.isp_bind.proofs.Promised.{in_range}

-- what a type has lies between its ends
pub ends : (t : Elem) (z : ℤ) → IsValue t z → (z ≤ℤ pos (greatest t)) × ((pos (greatest t) -ℤ pos (2 ^ width t - 1)) ≤ℤ z)
ends Truth z v = (omega (arith, ints, v.1), omega (arith, ints, v.0))
ends I8 z v = (omega (arith, ints, v.1), omega (arith, ints, v.0))
ends U8 z v = (omega (arith, ints, v.1), omega (arith, ints, v.0))
ends I16 z v = (omega (arith, ints, v.1), omega (arith, ints, v.0))
ends U16 z v = (omega (arith, ints, v.1), omega (arith, ints, v.0))
ends I32 z v = (omega (arith, ints, v.1), omega (arith, ints, v.0))
ends U32 z v = (omega (arith, ints, v.1), omega (arith, ints, v.0))
ends I64 z v = (omega (arith, ints, v.1), omega (arith, ints, v.0))
ends U64 z v = (omega (arith, ints, v.1), omega (arith, ints, v.0))

-- it has all that lies there
pub between : (t : Elem) (z : ℤ) → z ≤ℤ pos (greatest t) → (pos (greatest t) -ℤ pos (2 ^ width t - 1)) ≤ℤ z → IsValue t z
between Truth z a b = (omega (arith, ints, a, b), omega (arith, ints, a, b))
between I8 z a b = (omega (arith, ints, a, b), omega (arith, ints, a, b))
between U8 z a b = (omega (arith, ints, a, b), omega (arith, ints, a, b))
between I16 z a b = (omega (arith, ints, a, b), omega (arith, ints, a, b))
between U16 z a b = (omega (arith, ints, a, b), omega (arith, ints, a, b))
between I32 z a b = (omega (arith, ints, a, b), omega (arith, ints, a, b))
between U32 z a b = (omega (arith, ints, a, b), omega (arith, ints, a, b))
between I64 z a b = (omega (arith, ints, a, b), omega (arith, ints, a, b))
between U64 z a b = (omega (arith, ints, a, b), omega (arith, ints, a, b))

-- a value and bits that differ from it by so many times 2 to the width
pub taken : (t : Elem) (z : ℤ) (n j : ℕ) → IsValue t z → z +ℤ pos (j * 2 ^ width t) ≡ pos n → n < 2 ^ width t → whole_bits t z ≡ Ok n
taken t z n j v e low = in_range t z v ∙ ap Ok (wrap_to-same (width t) z (pos n) j 0 (omega (arith, ints, e)) ∙ wrap_to-pos (width t) n ∙ mod-eq_of_lt low)
