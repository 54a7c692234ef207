-- The place that an instruction names, by its number: the one that its trap would have. Places may be in groups, as those of one line
-- of the source are.
use Rattle.std.specs.Prelude.{ℕ, List, Option, Some, None, slice_get}
use Rattle.isp_code.specs.declared.instr.Instr.{Instr}
use Rattle.isp_code.specs.declared.instr.Instr.TheVariants as instr
use Rattle.isp_code.specs.declared.instr.ScalarInstr.{ScalarInstr}
use Rattle.isp_code.specs.declared.instr.ScalarInstr.TheVariants as scalar
use Rattle.isp_code.specs.declared.instr.VectorInstr.{VectorInstr}
use Rattle.isp_code.specs.declared.instr.VectorInstr.TheVariants as vector

abbrev pub scalar_place : ScalarInstr → Option ℕ
scalar_place (scalar.Load a i k p) = Some p
scalar_place i = None

abbrev pub vector_place : VectorInstr → Option ℕ
vector_place (vector.Gather a i k p) = Some p
vector_place (vector.LoadRun a i k p) = Some p
vector_place i = None

-- an access, a division, an assertion and a call name one
abbrev pub place_of : Instr → Option ℕ
place_of (instr.Scalar d i) = scalar_place i
place_of (instr.Vector d i) = vector_place i
place_of (instr.Mask d i) = None
place_of (instr.Divide o d x y k p) = Some p
place_of (instr.Store a i y k p) = Some p
place_of (instr.Scatter a i y k p) = Some p
place_of (instr.StoreRun a i y k p) = Some p
place_of (instr.PackedStore d a i y k p) = Some p
place_of (instr.PackedLoad d a i y k p) = Some p
place_of (instr.Clear a k) = None
place_of (instr.Jump to) = None
place_of (instr.JumpIf t x to) = None
place_of (instr.Say t) = None
place_of (instr.PrintScalar x) = None
place_of (instr.PrintVector x k) = None
place_of (instr.Fail x p) = Some p
place_of (instr.Call c) = Some c.place
place_of (instr.Return x) = None

-- the group of a place that is named, given the group of each place
abbrev pub group_of : List ℕ → Option ℕ → Option ℕ
group_of groups None = None
group_of groups (Some p) = slice_get groups p
