-- The order of the element types, the type in which two operands meet, and that of a sum.
use Rattle.std.specs.Prelude.{ℕ, Bool, ◌==◌, nat_lt, if◌then◌else◌}
use Rattle.isp_base.specs.declared.types.Elem.{Elem}
use Rattle.isp_base.specs.declared.types.Elem.TheVariants.{Bool as Truth, I8, U8, I16, U16, I32, U32, I64, U64}

-- the place of a type in the order
abbrev pub rank : Elem → ℕ
rank Truth = 0
rank I8 = 1
rank U8 = 2
rank I16 = 3
rank U16 = 4
rank I32 = 5
rank U32 = 6
rank I64 = 7
rank U64 = 8

abbrev pub same_elem : Elem → Elem → Bool
same_elem a b = rank a == rank b

-- bool takes part in arithmetic as int32
abbrev pub operand : Elem → Elem
operand Truth = I32
operand t = t

-- the later of the two types
abbrev pub common : Elem → Elem → Elem
common a b = if nat_lt (rank (operand a)) (rank (operand b)) then operand b else operand a

-- the type of `?:` and of `select`: bool where both sides are bool, else the one in which they meet
abbrev pub chosen : Elem → Elem → Elem
chosen Truth Truth = Truth
chosen a b = common a b

-- the type of a sum: twice as wide, up to 64 bits, of the same sign
abbrev pub widened : Elem → Elem
widened Truth = I64
widened I8 = I16
widened U8 = U16
widened I16 = I32
widened U16 = U32
widened I32 = I64
widened U32 = U64
widened I64 = I64
widened U64 = U64
