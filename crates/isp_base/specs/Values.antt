-- What an element type's values are, and what each operator does to them, in whole numbers.
--     bits of an element type: a natural below 2 ^ width; it stands for a whole number, `number t bits`
--     wrap t z             the bits of the value of t that differs from z by a multiple of 2 ^ width
--     outcome_to w op x y  the operator's result in whole numbers, at width w; it is then wrapped
use Rattle.std.specs.Prelude.{◌≡◌, ℕ, zero, suc, ◌-◌, ◌%◌, ◌^◌, Bool, true, false, if◌then◌else◌, ℤ, pos, negsuc, ◌+ℤ◌, ◌-ℤ◌, ◌*ℤ◌, nat_lt, int_lt, not, unsigned_abs, int_div, int_rem, bit_and, bit_or, bit_xor}
use Rattle.std.specs.Int.{int_rem_euclid, int_shr, int_min, int_max}
use Rattle.isp_base.specs.declared.types.Elem.{Elem}
use Rattle.isp_base.specs.declared.types.Elem.TheVariants.{Bool as Truth, I8, U8, I16, U16, I32, U32, I64, U64}
use Rattle.isp_base.specs.declared.operators.BinOp.{BinOp}
use Rattle.isp_base.specs.declared.operators.BinOp.TheVariants.{Add, Sub, Mul, Div, Rem, And, Or, Xor, Shl, Shr, Min, Max}
use Rattle.isp_base.specs.declared.operators.Compare.{Compare}
use Rattle.isp_base.specs.declared.operators.Compare.TheVariants.{Equal, NotEqual, Less, LessOrEqual, Greater, GreaterOrEqual}
use Rattle.std.specs.Ordering.{int_eq}

-- how many bits a value has
abbrev pub width : Elem → ℕ
width Truth = 1
width I8 = 8
width U8 = 8
width I16 = 16
width U16 = 16
width I32 = 32
width U32 = 32
width I64 = 64
width U64 = 64

-- the greatest value; bits above it stand for the negative values
abbrev pub greatest : Elem → ℕ
greatest Truth = 1
greatest I8 = 2 ^ 7 - 1
greatest U8 = 2 ^ 8 - 1
greatest I16 = 2 ^ 15 - 1
greatest U16 = 2 ^ 16 - 1
greatest I32 = 2 ^ 31 - 1
greatest U32 = 2 ^ 32 - 1
greatest I64 = 2 ^ 63 - 1
greatest U64 = 2 ^ 64 - 1

-- the residue of z modulo 2 ^ w
unfoldable pub wrap_to : ℕ → ℤ → ℕ
wrap_to w z = unsigned_abs (int_rem_euclid z (pos (2 ^ w)))

-- the whole number of w bits whose greatest value is g
unfoldable pub number_to : ℕ → ℕ → ℕ → ℤ
number_to w g bits = if nat_lt g bits then pos bits -ℤ pos (2 ^ w) else pos bits

-- the bits of the value of t that differs from z by a multiple of 2 ^ width
abbrev pub wrap : Elem → ℤ → ℕ
wrap t z = wrap_to (width t) z

-- the number that the low bits stand for
abbrev pub number : Elem → ℕ → ℤ
number t bits = number_to (width t) (greatest t) (bits % 2 ^ width t)

-- a shift's amount is taken modulo the width
unfoldable pub amount : ℕ → ℤ → ℕ
amount w y = unsigned_abs (int_rem_euclid y (pos w))

-- the operator's result in whole numbers, where values have w bits
abbrev pub outcome_to : ℕ → BinOp → ℤ → ℤ → ℤ
outcome_to w Add x y = x +ℤ y
outcome_to w Sub x y = x -ℤ y
outcome_to w Mul x y = x *ℤ y
outcome_to w Div x y = int_div x y
outcome_to w Rem x y = int_rem x y
outcome_to w And x y = pos (bit_and (wrap_to w x) (wrap_to w y))
outcome_to w Or x y = pos (bit_or (wrap_to w x) (wrap_to w y))
outcome_to w Xor x y = pos (bit_xor (wrap_to w x) (wrap_to w y))
outcome_to w Shl x y = x *ℤ pos (2 ^ amount w y)
outcome_to w Shr x y = int_shr x (amount w y)
outcome_to w Min x y = int_min x y
outcome_to w Max x y = int_max x y

-- the bits that an operator gives at the bits x and y
abbrev pub op_bits : BinOp → Elem → ℕ → ℕ → ℕ
op_bits op t x y = wrap t (outcome_to (width t) op (number t x) (number t y))

-- the operators that a divisor of zero has no result for
abbrev pub divides : BinOp → Bool
divides Div = true
divides Rem = true
divides op = false

-- there is no result
abbrev pub DividesByZero : BinOp → Elem → ℕ → Type 0
DividesByZero op t y = (divides op ≡ true) × (number t y ≡ pos 0)

-- as a bool, a number is whether it is not zero
unfoldable pub not_zero : ℤ → ℕ
not_zero (pos zero) = 0
not_zero (pos (suc n)) = 1
not_zero (negsuc n) = 1

-- the bits of z as a value of type t
abbrev pub convert_bits : Elem → ℤ → ℕ
convert_bits Truth z = not_zero z
convert_bits t z = wrap t z

-- a comparison of whole numbers
abbrev pub compare_to : Compare → ℤ → ℤ → Bool
compare_to Equal x y = int_eq x y
compare_to NotEqual x y = not (int_eq x y)
compare_to Less x y = int_lt x y
compare_to LessOrEqual x y = not (int_lt y x)
compare_to Greater x y = int_lt y x
compare_to GreaterOrEqual x y = not (int_lt x y)

-- the bits of its answer, a bool
abbrev pub compare_bits : Compare → Elem → ℕ → ℕ → ℕ
compare_bits c t x y = if compare_to c (number t x) (number t y) then 1 else 0
