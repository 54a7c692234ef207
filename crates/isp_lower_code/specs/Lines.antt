-- The number that an instruction names: of an instruction to jump to, of the place of its trap, or of a text.
use Rattle.std.specs.Prelude.{◌≡◌, ℕ, ◌^◌, Option, Some, None, Bool, nat_lt}
use Rattle.std.specs.List.{list_all}
use Rattle.isp_code.specs.Listing.{Routine}
use Rattle.isp_code.specs.declared.instr.Instr.{Instr}
use Rattle.isp_code.specs.declared.instr.Instr.TheVariants as instr
use Rattle.isp_code.specs.declared.instr.ScalarInstr.{ScalarInstr}
use Rattle.isp_code.specs.declared.instr.ScalarInstr.TheVariants as scalar
use Rattle.isp_code.specs.declared.instr.VectorInstr.{VectorInstr}
use Rattle.isp_code.specs.declared.instr.VectorInstr.TheVariants as vector

-- ---- an instruction that names this number; one that names none stays as it is

abbrev pub scalar_naming : ℕ → ScalarInstr → ScalarInstr
scalar_naming n (scalar.Load a i k p) = scalar.Load a i k n
scalar_naming n i = i

abbrev pub vector_naming : ℕ → VectorInstr → VectorInstr
vector_naming n (vector.Gather a i k p) = vector.Gather a i k n
vector_naming n (vector.LoadRun a i k p) = vector.LoadRun a i k n
vector_naming n i = i

abbrev pub naming : ℕ → Instr → Instr
naming n (instr.Scalar d i) = instr.Scalar d (scalar_naming n i)
naming n (instr.Vector d i) = instr.Vector d (vector_naming n i)
naming n (instr.Divide op d x y k p) = instr.Divide op d x y k n
naming n (instr.Store a i y k p) = instr.Store a i y k n
naming n (instr.Scatter a i y k p) = instr.Scatter a i y k n
naming n (instr.StoreRun a i y k p) = instr.StoreRun a i y k n
naming n (instr.PackedStore d a i y k p) = instr.PackedStore d a i y k n
naming n (instr.PackedLoad d a i y k p) = instr.PackedLoad d a i y k n
naming n (instr.Jump to) = instr.Jump n
naming n (instr.JumpIf t x to) = instr.JumpIf t x n
naming n (instr.Say t) = instr.Say n
naming n (instr.Fail k p) = instr.Fail k n
naming n (instr.Call c) = instr.Call (record c { place = n })
naming n i = i

-- the number is told, or the instruction has its own
abbrev pub naming_if : Option ℕ → Instr → Instr
naming_if None i = i
naming_if (Some n) i = naming n i

-- ---- the number that an instruction names, and 0 where it names none

abbrev pub named_by_scalar : ScalarInstr → ℕ
named_by_scalar (scalar.Load a i k p) = p
named_by_scalar i = 0

abbrev pub named_by_vector : VectorInstr → ℕ
named_by_vector (vector.Gather a i k p) = p
named_by_vector (vector.LoadRun a i k p) = p
named_by_vector i = 0

abbrev pub number_named : Instr → ℕ
number_named (instr.Scalar d i) = named_by_scalar i
number_named (instr.Vector d i) = named_by_vector i
number_named (instr.Divide op d x y k p) = p
number_named (instr.Store a i y k p) = p
number_named (instr.Scatter a i y k p) = p
number_named (instr.StoreRun a i y k p) = p
number_named (instr.PackedStore d a i y k p) = p
number_named (instr.PackedLoad d a i y k p) = p
number_named (instr.Jump to) = to
number_named (instr.JumpIf t x to) = to
number_named (instr.Say t) = t
number_named (instr.Fail k p) = p
number_named (instr.Call c) = c.place
number_named i = 0

-- an instruction beside which a number stands is one that names a number
abbrev pub CanName : Option ℕ → Instr → Type 0
CanName None i = Unit {0}
CanName (Some n) i = number_named (naming n i) ≡ n

-- it has 32 bits
abbrev pub has_small_number : Instr → Bool
has_small_number i = nat_lt (number_named i) (2 ^ 32)

-- so have those that the instructions of a routine name
abbrev pub has_small_numbers : Routine → Bool
has_small_numbers g = list_all has_small_number g.code
