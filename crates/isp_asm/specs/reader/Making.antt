-- The instruction of a word, registers and an ending, whatever their number: no part of the promise.
use Rattle.std.specs.Prelude.{ℕ, ℤ, pos, ◌==◌, if◌then◌else◌, get_or, length, List, Option, None}
use Rattle.isp_code.specs.declared.instr.Instr.{Instr}
use Rattle.isp_code.specs.declared.instr.Instr.TheVariants as instr
use Rattle.isp_code.specs.declared.instr.MaskInstr.TheVariants as mask
use Rattle.isp_code.specs.declared.instr.ScalarInstr.{ScalarInstr}
use Rattle.isp_code.specs.declared.instr.ScalarInstr.TheVariants as scalar
use Rattle.isp_code.specs.declared.instr.VectorInstr.{VectorInstr}
use Rattle.isp_code.specs.declared.instr.VectorInstr.TheVariants as vector
use Rattle.isp_code.specs.declared.register.Class.TheVariants as class
use Rattle.isp_code.specs.declared.register.Register.{Register}
use Rattle.isp_asm.specs.declared.head.Op.{Op}
use Rattle.isp_asm.specs.declared.head.Op.TheVariants as op
use Rattle.isp_asm.specs.declared.row.Tail.{Tail}
use Rattle.isp_asm.specs.declared.row.Tail.TheVariants.{Place, Label, Text, Number, Back}
use Rattle.isp_asm.specs.Shapes.{shape_of}

-- the register that stands where none does
abbrev pub none : Register
none = record { class = class.Scalar; number = 0 }

abbrev pub nth : List Register → ℕ → Register
nth rs n = get_or rs n none

abbrev pub number_of : Tail → ℕ
number_of (Place p) = p
number_of (Label n) = n
number_of (Text t) = t
number_of t = 0

abbrev pub constant_of : Tail → ℤ
constant_of (Number z) = z
constant_of t = pos 0

abbrev pub result_of : Tail → Option Register
result_of (Back x) = x
result_of t = None

-- a word that scalars and lanes have: what it sets a scalar register to, and lanes under a mask
abbrev pub scalar_made : Op → List Register → ScalarInstr
scalar_made op.Convert rs = scalar.Convert (nth rs 1)
scalar_made (op.Unary o) rs = scalar.Unary o (nth rs 1)
scalar_made (op.Plain o) rs = scalar.Binary o (nth rs 1) (nth rs 2)
scalar_made (op.Compare o) rs = scalar.Compare o (nth rs 1) (nth rs 2)
scalar_made op.Select rs = scalar.Select (nth rs 1) (nth rs 2) (nth rs 3)
scalar_made o rs = scalar.Copy (nth rs 1)

abbrev pub vector_made : Op → List Register → VectorInstr
vector_made op.Convert rs = vector.Convert (nth rs 1) (nth rs 2)
vector_made (op.Unary o) rs = vector.Unary o (nth rs 1) (nth rs 2)
vector_made (op.Plain o) rs = vector.Binary o (nth rs 1) (nth rs 2) (nth rs 3)
vector_made (op.Compare o) rs = vector.Compare o (nth rs 1) (nth rs 2) (nth rs 3)
vector_made op.Select rs = vector.Select (nth rs 1) (nth rs 2) (nth rs 3) (nth rs 4)
vector_made o rs = vector.Copy (nth rs 1) (nth rs 2)

-- with the fewest registers such a word is of scalars
abbrev pub operator_made : Op → List Register → Instr
operator_made o rs = if length rs == (shape_of o).fewest then instr.Scalar (nth rs 0) (scalar_made o rs) else instr.Vector (nth rs 0) (vector_made o rs)

abbrev pub made : Op → List Register → Tail → Instr
made op.Const rs t = instr.Scalar (nth rs 0) (scalar.Constant (constant_of t))
made op.Copy rs t = operator_made op.Copy rs
made op.Convert rs t = operator_made op.Convert rs
made (op.Unary o) rs t = operator_made (op.Unary o) rs
made (op.Plain o) rs t = operator_made (op.Plain o) rs
made (op.Compare o) rs t = operator_made (op.Compare o) rs
made op.Select rs t = operator_made op.Select rs
made (op.Divide o) rs t = instr.Divide o (nth rs 0) (nth rs 1) (nth rs 2) (nth rs 3) (number_of t)
made op.First rs t = instr.Scalar (nth rs 0) (scalar.First (nth rs 1))
made (op.Reduce o) rs t = instr.Scalar (nth rs 0) (scalar.Reduce o (nth rs 1) (nth rs 2))
made op.Extract rs t = instr.Scalar (nth rs 0) (scalar.Extract (nth rs 1) (nth rs 2) (nth rs 3))
made op.Load rs t = instr.Scalar (nth rs 0) (scalar.Load (nth rs 1) (nth rs 2) (nth rs 3) (number_of t))
made op.Store rs t = instr.Store (nth rs 0) (nth rs 1) (nth rs 2) (nth rs 3) (number_of t)
made op.Gather rs t = instr.Vector (nth rs 0) (vector.Gather (nth rs 1) (nth rs 2) (nth rs 3) (number_of t))
made op.Scatter rs t = instr.Scatter (nth rs 0) (nth rs 1) (nth rs 2) (nth rs 3) (number_of t)
made op.LoadRun rs t = instr.Vector (nth rs 0) (vector.LoadRun (nth rs 1) (nth rs 2) (nth rs 3) (number_of t))
made op.StoreRun rs t = instr.StoreRun (nth rs 0) (nth rs 1) (nth rs 2) (nth rs 3) (number_of t)
made op.PackedLoad rs t = instr.PackedLoad (nth rs 0) (nth rs 1) (nth rs 2) (nth rs 3) (nth rs 4) (number_of t)
made op.PackedStore rs t = instr.PackedStore (nth rs 0) (nth rs 1) (nth rs 2) (nth rs 3) (nth rs 4) (number_of t)
made op.Splat rs t = instr.Vector (nth rs 0) (vector.Splat (nth rs 1) (nth rs 2))
made op.Index rs t = instr.Vector (nth rs 0) (vector.Index (nth rs 1))
made (op.Scan o) rs t = instr.Vector (nth rs 0) (vector.Scan o (nth rs 1) (nth rs 2))
made (op.Exchange o) rs t = instr.Vector (nth rs 0) (vector.Exchange o (nth rs 1) (nth rs 2) (nth rs 3))
made op.Shuffle rs t = instr.Vector (nth rs 0) (vector.Shuffle (nth rs 1) (nth rs 2) (nth rs 3))
made op.ShuffleTwo rs t = instr.Vector (nth rs 0) (vector.ShuffleTwo (nth rs 1) (nth rs 2) (nth rs 3) (nth rs 4))
made op.Insert rs t = instr.Vector (nth rs 0) (vector.Insert (nth rs 1) (nth rs 2) (nth rs 3) (nth rs 4))
made op.MaskCopy rs t = instr.Mask (nth rs 0) (mask.Copy (nth rs 1))
made (op.MaskBinary o) rs t = instr.Mask (nth rs 0) (mask.Binary o (nth rs 1) (nth rs 2))
made op.Full rs t = instr.Mask (nth rs 0) mask.Full
made op.Off rs t = instr.Mask (nth rs 0) mask.Off
made op.Test rs t = instr.Mask (nth rs 0) (mask.Test (nth rs 1) (nth rs 2))
made op.Lowest rs t = instr.Mask (nth rs 0) (mask.Lowest (nth rs 1))
made op.Range rs t = instr.Mask (nth rs 0) (mask.Range (nth rs 1) (nth rs 2))
made op.Clear rs t = instr.Clear (nth rs 0) (nth rs 1)
made op.Jump rs t = instr.Jump (number_of t)
made (op.JumpIf c) rs t = instr.JumpIf c (nth rs 0) (number_of t)
made op.Say rs t = instr.Say (number_of t)
made op.PrintScalar rs t = instr.PrintScalar (nth rs 0)
made op.PrintVector rs t = instr.PrintVector (nth rs 0) (nth rs 1)
made op.Fail rs t = instr.Fail (nth rs 0) (number_of t)
made op.Return rs t = instr.Return (result_of t)
