-- The words of include/isp_machine.h: that of each instruction is its word of code text in capitals.
use Rattle.std.specs.Prelude.{ℕ, List, [], ◌∷◌, ◌++◌, ◌/◌, ◌%◌, Option, Some, None, codes}
use Rattle.std.specs.Char.{digit_char}
use Rattle.std.specs.Fmt.{decimal}
use Rattle.isp_base.specs.declared.operators.Compare.{Compare}
use Rattle.isp_base.specs.declared.operators.Compare.TheVariants as compare
use Rattle.isp_base.specs.declared.operators.UnaryOp.{UnaryOp}
use Rattle.isp_base.specs.declared.operators.UnaryOp.TheVariants as unary
use Rattle.isp_base.specs.declared.types.Elem.{Elem}
use Rattle.isp_base.specs.declared.types.Elem.TheVariants.{Bool as Truth, I8, U8, I16, U16, I32, U32, I64, U64}
use Rattle.isp_code.specs.declared.instr.Division.{Division}
use Rattle.isp_code.specs.declared.instr.Division.TheVariants as division
use Rattle.isp_code.specs.declared.instr.Exchange.{Exchange}
use Rattle.isp_code.specs.declared.instr.Exchange.TheVariants as exchange
use Rattle.isp_code.specs.declared.instr.JumpTest.{JumpTest}
use Rattle.isp_code.specs.declared.instr.JumpTest.TheVariants as jump
use Rattle.isp_code.specs.declared.instr.MaskOp.{MaskOp}
use Rattle.isp_code.specs.declared.instr.MaskOp.TheVariants as mask_op
use Rattle.isp_code.specs.declared.instr.Plain.{Plain}
use Rattle.isp_code.specs.declared.instr.Plain.TheVariants as plain
use Rattle.isp_code.specs.declared.instr.Reduction.{Reduction}
use Rattle.isp_code.specs.declared.instr.Reduction.TheVariants as reduction
use Rattle.isp_code.specs.declared.instr.Scan.{Scan}
use Rattle.isp_code.specs.declared.instr.Scan.TheVariants as scan
use Rattle.isp_code.specs.declared.register.Class.{Class}
use Rattle.isp_code.specs.declared.register.Class.TheVariants as class
use Rattle.isp_code.specs.declared.register.Register.{Register}

-- a type of C
abbrev pub c_type : Elem → List ℕ
c_type Truth = codes "bool"
c_type I8 = codes "int8_t"
c_type U8 = codes "uint8_t"
c_type I16 = codes "int16_t"
c_type U16 = codes "uint16_t"
c_type I32 = codes "int32_t"
c_type U32 = codes "uint32_t"
c_type I64 = codes "int64_t"
c_type U64 = codes "uint64_t"

-- a class of registers: as a register begins, and in capitals
abbrev pub small : Class → List ℕ
small class.Scalar = codes "s"
small class.Vector = codes "v"
small class.Mask = codes "m"
small class.Array = codes "a"

abbrev pub capital : Class → List ℕ
capital class.Scalar = codes "S"
capital class.Vector = codes "V"
capital class.Mask = codes "M"
capital class.Array = codes "A"

abbrev pub register_word : Register → List ℕ
register_word r = small r.class ++ decimal r.number

-- a byte of a string
abbrev pub byte_text : ℕ → List ℕ
byte_text b = codes "\\x" ++ digit_char (b / 16) ∷ digit_char (b % 16) ∷ []

abbrev pub unary_word : UnaryOp → List ℕ
unary_word unary.Negate = codes "NEG"
unary_word unary.Invert = codes "INV"
unary_word unary.Absolute = codes "ABS"
unary_word unary.Not = codes "LNOT"

abbrev pub plain_word : Plain → List ℕ
plain_word plain.Add = codes "ADD"
plain_word plain.Sub = codes "SUB"
plain_word plain.Mul = codes "MUL"
plain_word plain.And = codes "AND"
plain_word plain.Or = codes "OR"
plain_word plain.Xor = codes "XOR"
plain_word plain.Shl = codes "SHL"
plain_word plain.Shr = codes "SHR"
plain_word plain.Min = codes "MIN"
plain_word plain.Max = codes "MAX"

abbrev pub compare_word : Compare → List ℕ
compare_word compare.Equal = codes "EQ"
compare_word compare.NotEqual = codes "NE"
compare_word compare.Less = codes "LT"
compare_word compare.LessOrEqual = codes "LE"
compare_word compare.Greater = codes "GT"
compare_word compare.GreaterOrEqual = codes "GE"

-- a division is of lanes where it writes a vector register
abbrev pub division_word : Class → Division → List ℕ
division_word class.Vector division.Div = codes "VDIV"
division_word class.Vector division.Rem = codes "VREM"
division_word c division.Div = codes "DIV"
division_word c division.Rem = codes "REM"

abbrev pub mask_word : MaskOp → List ℕ
mask_word mask_op.And = codes "MAND"
mask_word mask_op.Or = codes "MOR"
mask_word mask_op.AndNot = codes "MANDN"

abbrev pub jump_word : JumpTest → List ℕ
jump_word jump.False = codes "JZ"
jump_word jump.True = codes "JNZ"
jump_word jump.Off = codes "JOFF"
jump_word jump.On = codes "JON"
jump_word jump.All = codes "JALL"

abbrev pub reduction_word : Reduction → List ℕ
reduction_word reduction.Add = codes "RADD"
reduction_word reduction.Min = codes "RMIN"
reduction_word reduction.Max = codes "RMAX"
reduction_word reduction.Equal = codes "REQU"
reduction_word reduction.Any = codes "RANY"
reduction_word reduction.All = codes "RALL"

abbrev pub scan_word : Scan → List ℕ
scan_word scan.Add = codes "SADD"
scan_word scan.And = codes "SAND"
scan_word scan.Or = codes "SOR"

abbrev pub exchange_word : Exchange → List ℕ
exchange_word exchange.Broadcast = codes "BCAST"
exchange_word exchange.Rotate = codes "ROT"
exchange_word exchange.Shift = codes "SHF"

-- a call, by what its result goes to
abbrev pub call_to : Class → List ℕ
call_to class.Vector = codes "VCALL"
call_to c = codes "SCALL"

abbrev pub call_word : Option Register → List ℕ
call_word None = codes "CALL"
call_word (Some r) = call_to r.class
