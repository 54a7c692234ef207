-- Which lanes of vectors an instruction reads and writes.
use Rattle.std.specs.Prelude.{ℕ, List, [], ◌∷◌, map, Option, Some, None, Bool, true, false, if◌then◌else◌}
use Rattle.isp_code.specs.Calls.{numbers}
use Rattle.isp_code.specs.Listing.{Routine}
use Rattle.isp_code.specs.Registers.{same_class}
use Rattle.isp_code.specs.declared.function.Returns.{Returns}
use Rattle.isp_code.specs.declared.function.Returns.TheVariants.{Vector as GivesVector}
use Rattle.isp_code.specs.declared.instr.Instr.{Instr}
use Rattle.isp_code.specs.declared.instr.Instr.TheVariants as instr
use Rattle.isp_code.specs.declared.instr.MaskInstr.{MaskInstr}
use Rattle.isp_code.specs.declared.instr.MaskInstr.TheVariants as mask
use Rattle.isp_code.specs.declared.instr.ScalarInstr.{ScalarInstr}
use Rattle.isp_code.specs.declared.instr.ScalarInstr.TheVariants as scalar
use Rattle.isp_code.specs.declared.instr.VectorInstr.{VectorInstr}
use Rattle.isp_code.specs.declared.instr.VectorInstr.TheVariants as vector
use Rattle.isp_code.specs.declared.register.Class.TheVariants as class
use Rattle.isp_code.specs.declared.register.Register.{Register}
use Rattle.isp_lanes_read.specs.declared.table.LaneSet.TheVariants as lanes
use Rattle.isp_lanes_read.specs.declared.table.Reading.{Reading}

-- the lanes of a vector register that are in a mask register
abbrev pub under : Register → Register → Reading
under k x = record { vector = x.number; lanes = lanes.Mask k.number }

abbrev pub number_under : Register → ℕ → Reading
number_under k x = record { vector = x; lanes = lanes.Mask k.number }

abbrev pub scalar_reads : ScalarInstr → List Reading
scalar_reads (scalar.Reduce o x k) = under k x ∷ []
scalar_reads (scalar.Extract x i k) = under k x ∷ []
scalar_reads i = []

abbrev pub vector_reads : VectorInstr → List Reading
vector_reads (vector.Copy x k) = under k x ∷ []
vector_reads (vector.Convert x k) = under k x ∷ []
vector_reads (vector.Unary o x k) = under k x ∷ []
vector_reads (vector.Binary o x y k) = under k x ∷ under k y ∷ []
vector_reads (vector.Compare o x y k) = under k x ∷ under k y ∷ []
vector_reads (vector.Select t x y k) = under k t ∷ under k x ∷ under k y ∷ []
vector_reads (vector.Splat x k) = []
vector_reads (vector.Index k) = []
vector_reads (vector.Gather a i k q) = under k i ∷ []
vector_reads (vector.LoadRun a i k q) = []
vector_reads (vector.Scan o x k) = under k x ∷ []
vector_reads (vector.Exchange e x i k) = under k x ∷ []
vector_reads (vector.Shuffle x i k) = under k x ∷ under k i ∷ []
vector_reads (vector.ShuffleTwo x y i k) = under k x ∷ under k y ∷ under k i ∷ []
vector_reads (vector.Insert x i y k) = under k x ∷ []

-- the mask under which a vector is written
abbrev pub mask_of : VectorInstr → Register
mask_of (vector.Copy x k) = k
mask_of (vector.Convert x k) = k
mask_of (vector.Unary o x k) = k
mask_of (vector.Binary o x y k) = k
mask_of (vector.Compare o x y k) = k
mask_of (vector.Select t x y k) = k
mask_of (vector.Splat x k) = k
mask_of (vector.Index k) = k
mask_of (vector.Gather a i k q) = k
mask_of (vector.LoadRun a i k q) = k
mask_of (vector.Scan o x k) = k
mask_of (vector.Exchange e x i k) = k
mask_of (vector.Shuffle x i k) = k
mask_of (vector.ShuffleTwo x y i k) = k
mask_of (vector.Insert x i y k) = k

-- it never traps
abbrev pub is_pure : VectorInstr → Bool
is_pure (vector.Gather a i k q) = false
is_pure (vector.LoadRun a i k q) = false
is_pure i = true

abbrev pub mask_reads : MaskInstr → List Reading
mask_reads (mask.Test x y) = under y x ∷ []
mask_reads i = []

abbrev pub is_vector : Register → Bool
is_vector d = same_class d.class class.Vector

abbrev pub gives_lanes : Returns → Bool
gives_lanes (GivesVector t) = true
gives_lanes g = false

-- a register that is given back, in a function that gives lanes
abbrev pub back_reads : Bool → Option Register → List Reading
back_reads true (Some x) = record { vector = x.number; lanes = lanes.Call } ∷ []
back_reads g x = []

-- what an instruction of a function reads of vectors; a return reads what goes back in each lane
abbrev pub reads : Routine → Instr → List Reading
reads h (instr.Scalar d i) = scalar_reads i
reads h (instr.Vector d i) = vector_reads i
reads h (instr.Mask d i) = mask_reads i
reads h (instr.Divide o d x y k q) = if is_vector d then under k x ∷ under k y ∷ [] else []
reads h (instr.Store a i y k q) = []
reads h (instr.Scatter a i y k q) = under k i ∷ under k y ∷ []
reads h (instr.StoreRun a i y k q) = under k y ∷ []
reads h (instr.PackedStore d a i y k q) = under k y ∷ []
reads h (instr.PackedLoad d a i y k q) = []
reads h (instr.Clear a k) = []
reads h (instr.Jump to) = []
reads h (instr.JumpIf t x to) = []
reads h (instr.Say t) = []
reads h (instr.PrintScalar x) = []
reads h (instr.PrintVector x k) = under k x ∷ []
reads h (instr.Fail x q) = []
reads h (instr.Call c) = map (number_under c.mask) (numbers class.Vector c.arguments)
reads h (instr.Return x) = back_reads (gives_lanes h.returns) x

-- the result of a call, where it is a vector
abbrev pub result_written : Register → Option Register → Option Reading
result_written k None = None
result_written k (Some d) = if is_vector d then Some (under k d) else None

-- the vector that an instruction writes, and in which lanes
abbrev pub written : Instr → Option Reading
written (instr.Vector d i) = Some (under (mask_of i) d)
written (instr.Divide o d x y k q) = if is_vector d then Some (under k d) else None
written (instr.PackedLoad d a i y k q) = Some (under k y)
written (instr.Call c) = result_written c.mask c.result
written i = None
