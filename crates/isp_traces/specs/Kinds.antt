-- The kinds of instructions, and their words.
use Rattle.std.specs.Prelude.{ℕ, List, codes}
use Rattle.isp_code.specs.declared.instr.Instr.{Instr}
use Rattle.isp_code.specs.declared.instr.Instr.TheVariants as instr
use Rattle.isp_code.specs.declared.instr.ScalarInstr.{ScalarInstr}
use Rattle.isp_code.specs.declared.instr.ScalarInstr.TheVariants as scalar
use Rattle.isp_code.specs.declared.instr.VectorInstr.{VectorInstr}
use Rattle.isp_code.specs.declared.instr.VectorInstr.TheVariants as vector
use Rattle.isp_code.specs.declared.register.Class.{Class}
use Rattle.isp_code.specs.declared.register.Class.TheVariants as class
use Rattle.isp_traces.specs.declared.kinds.Kind.{Kind}
use Rattle.isp_traces.specs.declared.kinds.Kind.TheVariants.{Scalars, Vectors, Memory, Masks, Jumps, Calls, Output, Asserts}

abbrev pub scalar_kind : ScalarInstr → Kind
scalar_kind (scalar.Load a i k p) = Memory
scalar_kind i = Scalars

abbrev pub vector_kind : VectorInstr → Kind
vector_kind (vector.Gather a i k p) = Memory
vector_kind (vector.LoadRun a i k p) = Memory
vector_kind i = Vectors

-- a division is of lanes where it writes a vector, else of scalars
abbrev pub divided : Class → Kind
divided class.Vector = Vectors
divided c = Scalars

abbrev pub kind_of : Instr → Kind
kind_of (instr.Scalar d i) = scalar_kind i
kind_of (instr.Vector d i) = vector_kind i
kind_of (instr.Mask d i) = Masks
kind_of (instr.Divide o d x y k p) = divided d.class
kind_of (instr.Store a i y k p) = Memory
kind_of (instr.Scatter a i y k p) = Memory
kind_of (instr.StoreRun a i y k p) = Memory
kind_of (instr.PackedStore d a i y k p) = Memory
kind_of (instr.PackedLoad d a i y k p) = Memory
kind_of (instr.Clear a k) = Memory
kind_of (instr.Jump to) = Jumps
kind_of (instr.JumpIf t x to) = Jumps
kind_of (instr.Say t) = Output
kind_of (instr.PrintScalar x) = Output
kind_of (instr.PrintVector x k) = Output
kind_of (instr.Fail x p) = Asserts
kind_of (instr.Call c) = Calls
kind_of (instr.Return x) = Calls

abbrev pub number_of : Kind → ℕ
number_of Scalars = 0
number_of Vectors = 1
number_of Memory = 2
number_of Masks = 3
number_of Jumps = 4
number_of Calls = 5
number_of Output = 6
number_of Asserts = 7

abbrev pub name_of : Kind → List ℕ
name_of Scalars = codes "scalars"
name_of Vectors = codes "vectors"
name_of Memory = codes "memory"
name_of Masks = codes "masks"
name_of Jumps = codes "jumps"
name_of Calls = codes "calls"
name_of Output = codes "output"
name_of Asserts = codes "asserts"
