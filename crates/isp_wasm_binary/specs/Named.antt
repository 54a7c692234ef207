-- The operators of isp_wasm_meaning, as the code names them.
use Rattle.std.specs.Prelude.{ℕ}
use Rattle.isp_wasm_meaning.specs.Lists.{evens}
use Rattle.isp_wasm_meaning.specs.Syntax as wasm
use Rattle.isp_wasm_binary.specs.Instructions as instructions
use Rattle.isp_wasm_binary.specs.declared.operators.Size.{Size}
use Rattle.isp_wasm_binary.specs.declared.operators.Size.TheVariants as size_names
use Rattle.isp_wasm_binary.specs.declared.operators.Shape.{Shape}
use Rattle.isp_wasm_binary.specs.declared.operators.Shape.TheVariants as shapes
use Rattle.isp_wasm_binary.specs.declared.operators.Whole.{Whole}
use Rattle.isp_wasm_binary.specs.declared.operators.Whole.TheVariants as wholes
use Rattle.isp_wasm_binary.specs.declared.operators.Bitwise.{Bitwise}
use Rattle.isp_wasm_binary.specs.declared.operators.Bitwise.TheVariants as bitwises
use Rattle.isp_wasm_binary.specs.declared.operators.Shift.{Shift}
use Rattle.isp_wasm_binary.specs.declared.operators.Shift.TheVariants as shifts
use Rattle.isp_wasm_binary.specs.declared.operators.Test.{Test}
use Rattle.isp_wasm_binary.specs.declared.operators.Test.TheVariants as tests
use Rattle.isp_wasm_binary.specs.declared.operators.Division.{Division}
use Rattle.isp_wasm_binary.specs.declared.operators.Division.TheVariants as divisions
use Rattle.isp_wasm_binary.specs.declared.operators.Unary.{Unary}
use Rattle.isp_wasm_binary.specs.declared.operators.Unary.TheVariants as unaries
use Rattle.isp_wasm_binary.specs.declared.operators.Binary.{Binary}
use Rattle.isp_wasm_binary.specs.declared.operators.Binary.TheVariants as binaries
use Rattle.isp_wasm_binary.specs.declared.words.Width.{Width}
use Rattle.isp_wasm_binary.specs.declared.words.Width.TheVariants as widths

abbrev pub size : Size → wasm.Size
size size_names.I32 = wasm.I32
size size_names.I64 = wasm.I64

abbrev pub shape : Shape → wasm.Shape
shape shapes.I8x16 = wasm.I8x16
shape shapes.I16x8 = wasm.I16x8
shape shapes.I32x4 = wasm.I32x4
shape shapes.I64x2 = wasm.I64x2

abbrev pub whole : Whole → wasm.Whole
whole wholes.Add = wasm.Add
whole wholes.Sub = wasm.Sub
whole wholes.Mul = wasm.Mul

abbrev pub bitwise : Bitwise → wasm.Bitwise
bitwise bitwises.And = wasm.And
bitwise bitwises.Or = wasm.Or
bitwise bitwises.Xor = wasm.Xor

abbrev pub shift : Shift → wasm.Shift
shift shifts.Shl = wasm.Shl
shift shifts.ShrU = wasm.ShrU
shift shifts.ShrS = wasm.ShrS

abbrev pub test : Test → wasm.Test
test tests.Eq = wasm.Eq
test tests.Ne = wasm.Ne
test tests.LtU = wasm.LtU
test tests.LtS = wasm.LtS

abbrev pub division : Division → wasm.Division
division divisions.DivU = wasm.DivU
division divisions.RemU = wasm.RemU

abbrev pub unary : Unary → wasm.Unary
unary (unaries.Eqz t) = wasm.Eqz (size t)
unary (unaries.Ctz t) = wasm.Ctz (size t)
unary unaries.Wrap = wasm.Wrap
unary unaries.ExtendU = wasm.ExtendU
unary unaries.ExtendS = wasm.ExtendS
unary unaries.Extend8S = wasm.Extend8S
unary unaries.Extend16S = wasm.Extend16S
unary (unaries.Splat s) = wasm.Splat (shape s)
unary (unaries.Extract s k) = wasm.Extract (shape s) k
unary (unaries.ExtendLow s) = wasm.ExtendLow (shape s)
unary (unaries.ExtendHigh s) = wasm.ExtendHigh (shape s)
unary (unaries.Bitmask s) = wasm.Bitmask (shape s)

abbrev pub binary : Binary → wasm.Binary
binary (binaries.Of t o) = wasm.Of (size t) (whole o)
binary (binaries.BitsOf t o) = wasm.BitsOf (size t) (bitwise o)
binary (binaries.ShiftOf t o) = wasm.ShiftOf (size t) (shift o)
binary (binaries.Compare t o) = wasm.Compare (size t) (test o)
binary (binaries.Lanes s o) = wasm.Lanes (shape s) (whole o)
binary (binaries.CompareLanes s o) = wasm.CompareLanes (shape s) (test o)
binary (binaries.ShiftLanes s o) = wasm.ShiftLanes (shape s) (shift o)
binary (binaries.Bits o) = wasm.Bits (bitwise o)
binary (binaries.Replace s k) = wasm.Replace (shape s) k
binary (binaries.Evens s) = wasm.Shuffle (evens (shape s))

-- so many bytes of memory
abbrev pub width : Width → ℕ
width widths.One = 1
width widths.Two = 2
width widths.Four = 4
width widths.Eight = 8
width widths.Sixteen = 16

abbrev pub access : Width → instructions.Access
access w = instructions.access (width w)
