-- What holds of each element type, and the operators at an element type.
use Rattle.std.proofs.Common.{◌≡◌, ap, ℕ, ◌^◌, ◌<◌, ◌≤◌, cond, pos, ◌-ℤ◌, lit≤, lt-ltb, le-ltb}
use Rattle.isp_base.specs.declared.types.Elem.{Elem}
use Rattle.isp_base.specs.declared.types.Elem.TheVariants.{Bool as Truth, I8, U8, I16, U16, I32, U32, I64, U64}
use Rattle.isp_base.specs.Values.{width, greatest, number_to}

pub width_le : (t : Elem) → 2 ^ width t ≤ 2 ^ 64
width_le Truth = lit≤ tt
width_le I8 = lit≤ tt
width_le U8 = lit≤ tt
width_le I16 = lit≤ tt
width_le U16 = lit≤ tt
width_le I32 = lit≤ tt
width_le U32 = lit≤ tt
width_le I64 = lit≤ tt
width_le U64 = lit≤ tt

pub greatest_lt : (t : Elem) → greatest t < 2 ^ width t
greatest_lt Truth = lit≤ tt
greatest_lt I8 = lit≤ tt
greatest_lt U8 = lit≤ tt
greatest_lt I16 = lit≤ tt
greatest_lt U16 = lit≤ tt
greatest_lt I32 = lit≤ tt
greatest_lt U32 = lit≤ tt
greatest_lt I64 = lit≤ tt
greatest_lt U64 = lit≤ tt

pub number_above : (w g b : ℕ) → g < b → number_to w g b ≡ pos b -ℤ pos (2 ^ w)
unfolding number_to
number_above w g b h = ap (λ t. cond t (pos b -ℤ pos (2 ^ w)) (pos b)) (lt-ltb g b h)

pub number_below : (w g b : ℕ) → b ≤ g → number_to w g b ≡ pos b
unfolding number_to
number_below w g b h = ap (λ t. cond t (pos b -ℤ pos (2 ^ w)) (pos b)) (le-ltb g b h)

pub one_lt : (t : Elem) → 1 < 2 ^ width t
one_lt Truth = lit≤ tt
one_lt I8 = lit≤ tt
one_lt U8 = lit≤ tt
one_lt I16 = lit≤ tt
one_lt U16 = lit≤ tt
one_lt I32 = lit≤ tt
one_lt U32 = lit≤ tt
one_lt I64 = lit≤ tt
one_lt U64 = lit≤ tt
